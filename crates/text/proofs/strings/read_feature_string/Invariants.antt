use Rattle.std.proofs.Common.{◌≡◌, drop}
use Rattle.text.specs.declared.faults.StringFault.TheVariants.{NoForm}
use Rattle.text.specs.Machines.{read_from}
use Rattle.text.specs.Readers.{step, finish, Room, read_form}
use Rattle.text.proofs.strings.read_feature_string.Given as goal

-- what is left of the string gives the answer
abbrev pub invariant-loop-at : goal.invariant-loop-at
invariant-loop-at l = Room l.state l.at × (read_from step finish NoForm l.text l.state l.at (drop l.at l.text) ≡ read_form l.text)
