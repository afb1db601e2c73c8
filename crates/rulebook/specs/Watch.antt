-- The watch entries of a rule's premises, and tables that rules make.
use Rattle.std.specs.Prelude.{if◌then◌else◌, ℕ, Bool, false, Some, None, Option, ◌==◌}
use Rattle.graph.specs.declared.rows.ItemRule.{ItemRule}
use Rattle.rulebook.specs.declared.entries.WatchEntry.{WatchEntry}
use Rattle.rulebook.specs.Tables.{Table, pair}

-- the item, if there is one, is i
abbrev pub is_item : Option ℕ → ℕ → Bool
is_item None i = false
is_item (Some j) i = j == i

-- the partner of from is the with, and the other way round
abbrev pub watch_entry : ItemRule → ℕ → Option WatchEntry
watch_entry ρ i =
    if ρ.from == i then Some (record { partner = ρ.with; conclusion = ρ.to })
    else (if is_item ρ.with i then Some (pair ρ.from ρ.to) else None)

-- a row without a rule gives no entry
abbrev pub entry_in : Option ItemRule → ℕ → Option WatchEntry
entry_in None i = None
entry_in (Some ρ) i = watch_entry ρ i

-- the table in which an item watches the rule of a row that is for it
abbrev pub rule_table : ℕ → ℕ → (ℕ → ℕ → Option ItemRule) → Table
rule_table items rows rule = record { items = items; rows = rows; entry = λ i r. entry_in (rule i r) i }
