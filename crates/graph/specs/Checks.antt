-- What the closures of the second reading answer.
use Rattle.std.specs.Prelude.{◌≡◌, ℕ, Bool, List, Result}
use Rattle.std.specs.Borrow.{Bor}
use Rattle.records.specs.declared.faults.RecordFault.{RecordFault}
use Rattle.records.specs.Graphs.{Declaration}
use Rattle.graph.specs.declared.contents.DeclarationRecord as code
use Rattle.graph.specs.Views.{declaration_view}

-- what a closure of the code answers is what this test answers: of a record that is read again, with the number of its
-- package; and of a string
abbrev pub AnswersAs : (ℕ → code.DeclarationRecord → Result (Unit {0}) RecordFault → Type 0) → (ℕ → Declaration → Result (Unit {0}) RecordFault) → Type 0
AnswersAs post test = (p : ℕ) (x : code.DeclarationRecord) (r : Result (Unit {0}) RecordFault) → post p x r → r ≡ test p (declaration_view x)

abbrev pub KnowsAs : (Bor (List ℕ) → Bool → Type 0) → (List ℕ → Bool) → Type 0
KnowsAs post test = (t : Bor (List ℕ)) (b : Bool) → post t b → b ≡ test t.now
