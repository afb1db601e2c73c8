-- The words of a graph, counts and then rule rows; and what words say, whatever they hold.
use Rattle.std.specs.Prelude.{if◌then◌else◌, ℕ, ◌+◌, ◌*◌, Bool, true, ◌&&◌, List, [], ◌∷◌, map, length, take, drop, Some, None, Option, ◌==◌, nat_le, nat_lt, slice_index, option_map}
use Rattle.std.specs.List.{flat_map}
use Rattle.lanes.specs.declared.lane_numbers.Lane.{Lane}
use Rattle.std.specs.Int.{from_bool}
use Rattle.lanes.specs.Lanes.{lanes, lane_number, lane_at}
use Rattle.records.specs.Graphs.{Graph}
use Rattle.graph.specs.declared.rows.ItemRule.{ItemRule}
use Rattle.graph.specs.declared.rows.Row.{Row}
use Rattle.graph.specs.declared.graph_words.WordCounts.{WordCounts}
use Rattle.graph.specs.Law.{dependency_count, feature_count}
use Rattle.graph.specs.Limits.{max_packages, max_dependencies, max_features, max_rule_rows, head_words, row_width}
use Rattle.graph.specs.Places.{number}
use Rattle.graph.specs.Rules.{Rule, rules}

-- rows are rules with the items by number
abbrev pub row_of : Graph → Rule → Row
row_of g ρ = record {
  rule = record { from = number g ρ.from; with = option_map (number g) ρ.with; to = number g ρ.to };
  lane = ρ.lane;
  cross = ρ.cross;
}

abbrev pub rows : Graph → List Row
rows g = map (row_of g) (rules g)

-- the words of a row; the largest word means none
abbrev pub none : ℕ
none = 4294967295

abbrev pub with_word : Option ℕ → ℕ
with_word None = none
with_word (Some i) = i

-- the number after those of the lanes means no dependency
abbrev pub lane_word : Option Lane → ℕ
lane_word None = lanes
lane_word (Some l) = lane_number l

abbrev pub row_words : Row → List ℕ
row_words r =
    r.rule.from ∷ with_word r.rule.with ∷ r.rule.to ∷ lane_word r.lane ∷ from_bool r.cross ∷ []

-- the words of a graph: P, E, F, R, then the rows
abbrev pub graph_words : Graph → List ℕ
graph_words g =
    length g ∷ dependency_count g ∷ feature_count g ∷ length (rows g) ∷ flat_map row_words (rows g)

-- the item that a word names, if any; and the row of five words: none, if the lane or cross is out of range
abbrev pub with_of : ℕ → Option ℕ
with_of word = if word == none then None else Some word

abbrev pub row_from : List ℕ → Option Row
row_from ws =
    if nat_le (slice_index ws 3) lanes && nat_le (slice_index ws 4) 1
    then Some (record {
      rule = record { from = slice_index ws 0; with = with_of (slice_index ws 1); to = slice_index ws 2 };
      lane = lane_at (slice_index ws 3);
      cross = (slice_index ws 4 == 1);
    })
    else None

-- where row r begins, and where the rows before it end
abbrev pub row_start : ℕ → ℕ
row_start r = head_words + row_width * r

-- words are graph words if they begin with counts within their limits, and with as many rows as these say
abbrev pub are_graph_words : List ℕ → Bool
are_graph_words ws =
    nat_le head_words (length ws)
    && (nat_le (slice_index ws 0) max_packages
    && (nat_le (slice_index ws 1) max_dependencies
    && (nat_le (slice_index ws 2) max_features
    && (nat_le (slice_index ws 3) max_rule_rows
    && nat_le (row_start (slice_index ws 3)) (length ws)))))

-- the counts that words begin with; other words read as those of a graph without anything
abbrev pub word_counts : List ℕ → WordCounts
word_counts ws =
    if are_graph_words ws
    then record {
      packages = slice_index ws 0;
      dependencies = slice_index ws 1;
      features = slice_index ws 2;
      rows = slice_index ws 3;
    }
    else record { packages = 0; dependencies = 0; features = 0; rows = 0 }

-- how many local items there are: units, dependencies and features
abbrev pub local_items : WordCounts → ℕ
local_items c = c.packages + c.dependencies + c.features

abbrev pub local_count : List ℕ → ℕ
local_count ws = local_items (word_counts ws)

abbrev pub row_count : List ℕ → ℕ
row_count ws = (word_counts ws).rows

-- an item, if there is one, is below a count; and so are the items of a rule
abbrev pub is_below : ℕ → Option ℕ → Bool
is_below n None = true
is_below n (Some i) = nat_lt i n

abbrev pub in_range : ℕ → ItemRule → Bool
in_range n ρ = nat_lt ρ.from n && (nat_lt ρ.to n && is_below n ρ.with)

-- a row whose items are not there is none
abbrev pub row_within : ℕ → Option Row → Option Row
row_within n None = None
row_within n (Some row) = if in_range n row.rule then Some row else None

-- the row whose words begin at a place, with n items: none, if what they say is out of range
abbrev pub row_at : ℕ → List ℕ → ℕ → Option Row
row_at n ws start = row_within n (row_from (take row_width (drop start ws)))

-- row r of graph words: none beyond their count
abbrev pub row_in : List ℕ → ℕ → Option Row
row_in ws r = if nat_lt r (row_count ws) then row_at (local_count ws) ws (row_start r) else None
