-- What a rulebook means: tables of watch entries, their laws, and the question seek.
use Rattle.std.specs.Prelude.{◌≡◌, ℕ, zero, suc, ◌+◌, ◌-◌, ◌<◌, ◌≤◌, Some, None, Option, IfSome}
use Rattle.rulebook.specs.declared.entries.WatchEntry.{WatchEntry}
use Rattle.rulebook.specs.declared.entries.RowEntry.{RowEntry}

-- the most items and rows of a rulebook
abbrev pub max_items : ℕ
max_items = 73728

abbrev pub max_rows : ℕ
max_rows = 4194304

-- how many items and rows there are, and the watch entry of an item in a row, if there is one; an entry is a rule: with
-- the item and the partner, if any, active, the conclusion is to be active
pub record Table : Type 0 where
  pub items : ℕ
  pub rows : ℕ
  pub entry : ℕ → ℕ → Option WatchEntry

abbrev pub pair : ℕ → ℕ → WatchEntry
pair partner conclusion = record { partner = Some partner; conclusion = conclusion }

-- the laws of a rulebook
pub record Laws (t : Table) : Type 0 where
  pub few_items : t.items ≤ max_items
  pub few_rows : t.rows ≤ max_rows
  -- there is nothing beyond the counts
  pub within : (i r : ℕ) (e : WatchEntry) → t.entry i r ≡ Some e → (i < t.items) × (r < t.rows)
  -- entries name items
  pub below : (i r : ℕ) (e : WatchEntry) → t.entry i r ≡ Some e →
      (e.conclusion < t.items) × IfSome e.partner (λ b. b < t.items)
  -- a pair rule is watched from both of its premises
  pub paired : (a b c r : ℕ) → t.entry a r ≡ Some (pair b c) → t.entry b r ≡ Some (pair a c)

-- the entry of this row, or what is found later
abbrev pub or_later : Option WatchEntry → ℕ → Option RowEntry → Option RowEntry
or_later None r later = later
or_later (Some e) r later = Some (record { row = r; entry = e })

-- the first entry among n rows from r on
abbrev pub first_of : (ℕ → Option WatchEntry) → ℕ → ℕ → Option RowEntry
first_of entry r zero = None
first_of entry r (suc n) = or_later (entry r) r (first_of entry (r + 1) n)

-- the first entry of an item at or after a row
abbrev pub seek : Table → ℕ → ℕ → Option RowEntry
seek t i r = first_of (t.entry i) r (t.rows - r)
