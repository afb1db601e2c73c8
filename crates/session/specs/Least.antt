-- The least set of some items by the rules of a table.
use Rattle.std.specs.Prelude.{◌≡◌, ℕ, Bool, IsTrue, List, Some, IfSome, Contains}
use Rattle.rulebook.specs.declared.entries.WatchEntry.{WatchEntry}
use Rattle.rulebook.specs.Tables.{Table}

-- X holds the conclusion of each rule whose premises it holds
abbrev pub Closed : Table → (ℕ → Type 0) → Type 0
Closed t X = (i r : ℕ) (e : WatchEntry) → t.entry i r ≡ Some e → X i → IfSome e.partner X → X e.conclusion

-- the items in every set that holds those asked for and the conclusion of each rule whose premises it holds
abbrev pub Least : Table → List ℕ → ℕ → Type 0
Least t asked i = (X : ℕ → Bool) → ((j : ℕ) → Contains asked j → IsTrue (X j)) → Closed t (λ j. IsTrue (X j)) → IsTrue (X i)
