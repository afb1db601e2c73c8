-- Which strings begin some lawful string, and the longest such prefix of a string.
-- A grammar is a type of meanings, which of them are lawful, and how each is spelled.
use Rattle.std.specs.Prelude.{◌≡◌, ℕ, ◌<◌, ◌≤◌, List, ◌++◌, length, take}

module _ {M : Type 0} (Lawful : M → Type 0) (spell : M → List ℕ) where
  -- p begins some lawful string: there are a lawful meaning and a rest that make p its spelling
  abbrev pub Begins : List ℕ → Type 0
  Begins p = (m : M) × (rest : List ℕ) × Lawful m × (p ++ rest ≡ spell m)

  -- k is the length of the longest prefix of t that begins some lawful string
  pub record Longest (t : List ℕ) (k : ℕ) : Type 0 where
    pub within : k ≤ length t
    pub begins : Begins (take k t)
    pub longer : (j : ℕ) → k < j → j ≤ length t → Begins (take j t) → ⊥
