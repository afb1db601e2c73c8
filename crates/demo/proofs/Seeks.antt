-- Where what is sought stands.
use Rattle.std.proofs.Common.{◌≡◌, ℕ, zero, suc, ◌+◌, ◌-◌, ◌<◌, ◌≤◌, Some, None, Option, sym, ◌∙◌, arith}
use Rattle.rulebook.specs.declared.entries.RowEntry.{RowEntry}
use Rattle.rulebook.specs.declared.entries.WatchEntry.{WatchEntry}
use Rattle.rulebook.specs.Tables.{Table, or_later, first_of, seek}

-- among n rows from r on
abbrev pub Among : ℕ → ℕ → RowEntry → Type 0
Among r n f = (r ≤ f.row) × (f.row < r + n)

later-among : (o : Option WatchEntry) (r n : ℕ) (later : Option RowEntry) (f : RowEntry) → (later ≡ Some f → Among (r + 1) n f) → or_later o r later ≡ Some f → Among r (suc n) f
later-among None r n later f rest h = let z : Among (r + 1) n f = rest h in (omega arith, omega arith)
later-among (Some e) r n later f rest h = let z : r ≡ f.row = cc in (omega arith, omega arith)

first-among : (entry : ℕ → Option WatchEntry) (r n : ℕ) (f : RowEntry) → first_of entry r n ≡ Some f → Among r n f
first-among entry r zero f h = absurd (let z : ◌≡◌ {A = ℕ} 0 1 = cc in omega arith)
first-among entry r (suc n) f h = later-among (entry r) r n (first_of entry (r + 1) n) f (first-among entry (r + 1) n f) h

-- what is sought is at or after the row, and below the count
pub sought-among : (t : Table) (i r : ℕ) (o : Option RowEntry) (f : RowEntry) → o ≡ seek t i r → o ≡ Some f → (r ≤ f.row) × (f.row < t.rows)
sought-among t i r o f e h = let z : Among r (t.rows - r) f = first-among (t.entry i) r (t.rows - r) f (sym e ∙ h) in (omega arith, omega arith)
