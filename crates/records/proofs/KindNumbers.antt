-- The number of a kind.
use Rattle.std.proofs.Common.{◌≡◌, ℕ, Some, None, Err, Option, arith}
use Rattle.std.proofs.lemmas.Grind.{common_steps}
use Rattle.std.specs.Prelude.{ok_or}
use Rattle.records.specs.declared.faults.RecordFault.{RecordFault}
use Rattle.records.specs.declared.faults.RecordFault.TheVariants.{Stray}
use Rattle.records.specs.declared.frames.Kind.{Kind}
use Rattle.records.specs.Encoding.{kind_number}
use Rattle.records.specs.Frames.{kind_at}

-- a number that has a kind is that kind's
pub number-of : (n : ℕ) (k : Kind) → kind_at n ≡ Some k → n ≡ kind_number k
number-of n k e = grind (arith, common_steps)

-- a number that gives a fault has no kind
pub no-kind : (o : Option Kind) (e : RecordFault) → Err e ≡ ok_or o Stray → o ≡ None
no-kind o e h = grind (arith, common_steps)
