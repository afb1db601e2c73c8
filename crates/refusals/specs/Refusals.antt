-- Refusals, and the byte that one points to.
use Rattle.std.specs.Prelude.{ℕ, ◌+◌, ◌-◌, ◌^◌, min}
use Rattle.refusals.specs.declared.Refusal.{Refusal}

-- a refusal that is about no record of a file
abbrev pub about_no_record : ℕ → Refusal
about_no_record n = record { number = n; record_number = 0; start = 0; field = 0; prefix = 0 }

-- its three places added up; a sum beyond 64 bits stays at their largest number
abbrev pub byte : Refusal → ℕ
byte r = min ((r.start + r.field) + r.prefix) (2 ^ 64 - 1)
