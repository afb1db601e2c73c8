-- Derivations of items from the items asked for: what is derived is in the least set.
use Rattle.std.proofs.Common.{◌≡◌, ℕ, List, Some, None, Option, IfSome}
use Rattle.rulebook.specs.Tables.{Table, pair}
use Rattle.std.specs.List.{Contains}
use Rattle.session.specs.Least.{Least}

-- the items asked for, and the conclusion of each rule whose premises are derived
pub data Derived (table : Table) (asked : List ℕ) : ℕ → Type 0 where
  given : {i : ℕ} → Contains asked i → Derived table asked i
  alone : {i r c : ℕ} → table.entry i r ≡ Some (record { partner = None; conclusion = c }) → Derived table asked i → Derived table asked c
  both : {i r b c : ℕ} → table.entry i r ≡ Some (pair b c) → Derived table asked i → Derived table asked b → Derived table asked c

pub derived_by : (table : Table) (asked : List ℕ) (i r : ℕ) (b : Option ℕ) (c : ℕ) → table.entry i r ≡ Some (record { partner = b; conclusion = c }) →
    Derived table asked i → IfSome b (Derived table asked) → Derived table asked c
derived_by table asked i r None c e d p = alone e d
derived_by table asked i r (Some b) c e d p = both e d p

-- from more items more is derived
pub derived_mono : (table : Table) (asked more : List ℕ) → ((j : ℕ) → Contains asked j → Contains more j) → (i : ℕ) → Derived table asked i → Derived table more i
derived_mono table asked more h i (given g) = given (h i g)
derived_mono table asked more h i (alone {i = a} e d) = alone e (derived_mono table asked more h a d)
derived_mono table asked more h i (both {i = a} {b = b} e d p) = both e (derived_mono table asked more h a d) (derived_mono table asked more h b p)

pub derived-least : (table : Table) (asked : List ℕ) (i : ℕ) → Derived table asked i → Least table asked i
derived-least table asked i (given g) X h c = h i g
derived-least table asked i (alone {i = a} {r = r} e d) X h c = c a r _ e (derived-least table asked a d X h c) tt
derived-least table asked i (both {i = a} {r = r} {b = b} e d p) X h c = c a r _ e (derived-least table asked a d X h c) (derived-least table asked b p X h c)
