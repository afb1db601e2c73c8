-- Names of packages, dependencies and features.
use Rattle.std.specs.Prelude.{ℕ, ◌≤◌, Bool, IsTrue, ◌&&◌, ◌||◌, List, [], ◌∷◌, length, ◌==◌, nat_le}
use Rattle.std.specs.List.{AllByRecursion}

-- c is one of the characters from lo to hi
abbrev pub between : ℕ → ℕ → ℕ → Bool
between lo hi c = nat_le lo c && nat_le c hi

-- a to z, A to Z, 0 to 9 and _: what a name may begin with
abbrev pub initial : ℕ → Bool
initial c = between 97 122 c || (between 65 90 c || (between 48 57 c || c == 95))

-- these, and - + .: what a name may go on with
abbrev pub inner : ℕ → Bool
inner c = initial c || (c == 45 || (c == 43 || c == 46))

-- each byte may stand inside a name
abbrev pub Inner : List ℕ → Type 0
Inner bs = AllByRecursion (λ c. IsTrue (inner c)) bs

-- the most bytes that a name has
abbrev pub max_name_bytes : ℕ
max_name_bytes = 64

-- a name has 1 to 64 bytes, the first one initial, the later ones inner
abbrev pub Name : List ℕ → Type 0
Name [] = ⊥
Name (b ∷ bs) = IsTrue (initial b) × Inner bs × (length (b ∷ bs) ≤ max_name_bytes)
