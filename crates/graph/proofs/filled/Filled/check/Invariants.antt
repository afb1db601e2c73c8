use Rattle.std.proofs.Common.{◌≡◌, ℕ, Result, drop}
use Rattle.graph.specs.Checks.{AnswersAs}
use Rattle.graph.specs.RowLists.{its}
use Rattle.records.specs.declared.faults.RecordFault.{RecordFault}
use Rattle.records.specs.Graphs.{Declaration}
use Rattle.graph.specs.Second.{declaration_places, check_all}
use Rattle.graph.proofs.filled.Filled.check.Given as goal

-- the records that are left decide
abbrev pub invariant-loop-j : goal.invariant-loop-j
invariant-loop-j g l =
    (test : ℕ → Declaration → Result (Unit {0}) RecordFault) → AnswersAs (goal.F-post g l.known) test →
    check_all (λ x. test x.owner x.declaration) (drop l.j (declaration_places (its l.self))) ≡ check_all (λ x. test x.owner x.declaration) (declaration_places (its l.self))
