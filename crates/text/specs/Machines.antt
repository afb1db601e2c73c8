-- A reader that takes a string byte by byte. `step` gives the state after a byte, or none where no lawful string
-- goes on so, and `finish` what is answered where the string ends.
use Rattle.std.specs.Prelude.{ℕ, ◌+◌, List, [], ◌∷◌, Some, None, Err, Option, Result}
use Rattle.text.specs.declared.faults.StringFault.{StringFault}

module _ {S A : Type 0}
    (step : S → ℕ → Option S) (finish : S → List ℕ → Result A StringFault) (fault : ℕ → StringFault)
  where
    -- what is answered of the string t from a state and a place on, over what is left of it there
    abbrev pub read_from : List ℕ → S → ℕ → List ℕ → Result A StringFault
    read_from t s at [] = finish s t
    read_from t s at (b ∷ bs) =
        elim (step s b) [ None ↦ Err (fault at) | Some s' ↦ read_from t s' (at + 1) bs ]
