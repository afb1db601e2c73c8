-- Sides by number.
use Rattle.std.specs.Prelude.{ℕ, List, [], ◌∷◌, length, Option, ◌==◌}
use Rattle.std.specs.List.{find}
use Rattle.lanes.specs.declared.sides.Side.{Side}
use Rattle.lanes.specs.declared.sides.Side.TheVariants as side
use Rattle.lanes.specs.declared.sides.UnknownSide.{UnknownSide}

abbrev pub side_number : Side → ℕ
side_number side.Target = 0
side_number side.Host = 1

-- every side
abbrev pub all_sides : List Side
all_sides = side.Target ∷ side.Host ∷ []

-- how many sides there are
abbrev pub sides : ℕ
sides = length all_sides

-- the side of a number, if it has one
abbrev pub side_at : ℕ → Option Side
side_at n = find (λ s. n == side_number s) all_sides

-- the number is no side's
abbrev pub unknown_side : ℕ → UnknownSide
unknown_side n = record { 0 = n }
