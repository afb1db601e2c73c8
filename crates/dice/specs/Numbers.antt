-- The numbers that dice give.
use Rattle.std.specs.Prelude.{ℕ, ◌+◌, ◌*◌, ◌/◌, ◌%◌, ◌^◌, if◌then◌else◌, List, length, Option, ◌==◌}
use Rattle.std.specs.List.{slice_get}

-- each number of 64 bits leads to the next
abbrev pub next : ℕ → ℕ
next s = ((s * 6364136223846793005) % 2 ^ 64 + 1442695040888963407) % 2 ^ 64

-- a number below n, from the upper bits; 0, if there is none below n
abbrev pub number_below : ℕ → ℕ → ℕ
number_below s n = if n == 0 then 0 else (s / 2 ^ 33) % n

-- one of a list, at a number below its length; none, if the list has none
abbrev pub pick : ℕ → List ℕ → Option ℕ
pick s xs = slice_get xs (number_below s (length xs))

-- an empty list leaves the number as it was
abbrev pub next_after_pick : ℕ → List ℕ → ℕ
next_after_pick s xs = if length xs == 0 then s else next s
