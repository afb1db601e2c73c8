use Rattle.std.proofs.Common.{◌≡◌, ℕ, ◌+◌, ◌*◌, ◌^◌, ◌≤◌, Bool, List, length}
use Rattle.records.specs.Bodies.{texts}
use Rattle.graph.specs.Checks.{KnowsAs}
use Rattle.graph.specs.Second.{check_each}
use Rattle.graph.proofs.references.check_each.Given as goal

-- the strings that are left decide
abbrev pub invariant-loop-text : goal.invariant-loop-text
invariant-loop-text g l =
    (l.at + 256 * length (texts l.text-iterator) ≤ 2 ^ 63 + 65536)
    × ((test : List ℕ → Bool) → KnowsAs (goal.F-post g l.known) test →
    check_each test length l.at (texts l.text-iterator) ≡ check_each test length l.fn.at (texts l.strings))
