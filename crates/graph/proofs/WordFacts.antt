-- What words say is within the limits, and a row that counts has its words.
use Rattle.std.proofs.Common.{◌≡◌, ℕ, ◌+◌, ◌<◌, ◌≤◌, Bool, true, false, List, length, slice_index, refl, arith}
use Rattle.std.specs.Prelude.{cond, nat_le}
use Rattle.std.proofs.lemmas.Bool.{and_parts, leb-true}
use Rattle.graph.specs.declared.graph_words.WordCounts.{WordCounts}
use Rattle.graph.specs.Limits.{max_packages, max_dependencies, max_features, max_rule_rows, max_local_items, head_words, row_width}
use Rattle.graph.specs.Words.{row_start, are_graph_words, word_counts, local_count}

-- what graph words keep: their counts are within the limits, and their rows have words
pub record Kept (ws : List ℕ) (c : WordCounts) : Type 0 where
  pub packages : c.packages ≤ max_packages
  pub dependencies : c.dependencies ≤ max_dependencies
  pub features : c.features ≤ max_features
  pub rows : c.rows ≤ max_rule_rows
  pub room : (r : ℕ) → r < c.rows → row_start r + row_width ≤ length ws

-- what the test of graph words says
pub whole_parts : (ws : List ℕ) → are_graph_words ws ≡ true →
    (slice_index ws 0 ≤ max_packages) × (slice_index ws 1 ≤ max_dependencies) × (slice_index ws 2 ≤ max_features) × (slice_index ws 3 ≤ max_rule_rows) × (row_start (slice_index ws 3) ≤ length ws)
whole_parts ws h =
    let a = and_parts (nat_le head_words (length ws)) _ h in
    let b = and_parts (nat_le (slice_index ws 0) max_packages) _ a.1 in
    let c = and_parts (nat_le (slice_index ws 1) max_dependencies) _ b.1 in
    let d = and_parts (nat_le (slice_index ws 2) max_features) _ c.1 in
    let e = and_parts (nat_le (slice_index ws 3) max_rule_rows) (nat_le (row_start (slice_index ws 3)) (length ws)) d.1 in
    (leb-true _ _ b.0, leb-true _ _ c.0, leb-true _ _ d.0, leb-true _ _ e.0, leb-true _ _ e.1)

pub kept : (ws : List ℕ) → Kept ws (word_counts ws)
kept ws = go (are_graph_words ws) refl
  where
    go : (b : Bool) → are_graph_words ws ≡ b → Kept ws (cond b
        (record { packages = slice_index ws 0; dependencies = slice_index ws 1; features = slice_index ws 2; rows = slice_index ws 3 })
        (record { packages = 0; dependencies = 0; features = 0; rows = 0 }))
    go false h = record { packages = omega arith; dependencies = omega arith; features = omega arith; rows = omega arith; room = λ r l. absurd (omega arith) }
    go true h =
        let p = whole_parts ws h in
        let long : row_start (slice_index ws 3) ≤ length ws = p.4 in
        record { packages = p.0; dependencies = p.1; features = p.2; rows = p.3; room = λ r l. omega arith }

pub local-small : (ws : List ℕ) → local_count ws ≤ max_local_items
local-small ws = let k = kept ws in omega arith
