-- How a tally counts.
use Rattle.std.specs.Prelude.{ℕ, ◌+◌, ◌^◌, ◌-◌, Bool, if◌then◌else◌, min}
use Rattle.tally.specs.declared.Tally.{Tally}

-- one more, if a word of 64 bits can say it
abbrev pub one_more : ℕ → ℕ
one_more n = min (n + 1) (2 ^ 64 - 1)

-- one more was compared, and one more differs if the two were not the same
abbrev pub note : Tally → Bool → Tally
note t same = record { compared = one_more t.compared; differ = if same then t.differ else one_more t.differ }
