-- What a house book means: rules between items by number.
use Rattle.std.specs.Prelude.{if◌then◌else◌, ℕ, ◌+◌, ◌*◌, ◌/◌, min, List, length, Some, None, Option, nat_le, nat_lt, slice_index}
use Rattle.graph.specs.declared.rows.ItemRule.{ItemRule}
use Rattle.graph.specs.Words.{with_of, in_range}
use Rattle.rulebook.specs.Tables.{Table, max_items}
use Rattle.rulebook.specs.Watch.{rule_table}

-- an item count above the limit reads as 0
abbrev pub count_of : ℕ → ℕ
count_of n = if nat_le n max_items then n else 0

-- the words of a row, and the most rows that count
abbrev pub house_width : ℕ
house_width = 3

abbrev pub max_house_rows : ℕ
max_house_rows = 4096

abbrev pub house_rows : List ℕ → ℕ
house_rows ws = min (length ws / house_width) max_house_rows

-- the rule of row r: from, with, to
abbrev pub house_row : List ℕ → ℕ → ItemRule
house_row ws r = record {
  from = slice_index ws (house_width * r);
  with = with_of (slice_index ws (house_width * r + 1));
  to = slice_index ws (house_width * r + 2);
}

-- a row out of range gives no rule
abbrev pub rule_within : ℕ → ItemRule → Option ItemRule
rule_within n ρ = if in_range n ρ then Some ρ else None

abbrev pub house_rule : ℕ → List ℕ → ℕ → Option ItemRule
house_rule n ws r = if nat_lt r (house_rows ws) then rule_within n (house_row ws r) else None

abbrev pub house_table : ℕ → List ℕ → Table
house_table items ws =
    rule_table (count_of items) (house_rows ws) (λ i r. house_rule (count_of items) ws r)
