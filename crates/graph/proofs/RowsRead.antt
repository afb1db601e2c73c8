-- Rows are read back from their words.
use Rattle.std.proofs.Common.{◌≡◌, ℕ, zero, suc, ◌+◌, ◌*◌, ◌<◌, ◌≤◌, Bool, true, false, ◌&&◌, eqb, leb, List, [], ◌∷◌, ◌++◌, length, get_or, take, drop, Some, None, Option, refl, ap, ◌∙◌, arith, IfSome}
use Rattle.std.specs.List.{flat_map}
use Rattle.std.proofs.lemmas.Bool.{cond-true, cond-false, and_from, le-leb, ne_eqb}
use Rattle.lanes.specs.declared.lane_numbers.Lane.{Lane}
use Rattle.std.specs.Int.{from_bool}
use Rattle.lanes.specs.Lanes.{lanes, lane_number, lane_at}
use Rattle.lanes.proofs.LaneNumbers.{lane-back}
use Rattle.graph.specs.declared.rows.Row.{Row}
use Rattle.graph.specs.Words.{row_words, row_from, with_word, with_of, lane_word, none, row_start, in_range, row_within, row_at}
use Rattle.graph.proofs.RuleRanges.{InRange, range-in}

-- the words from a row on begin with that row's
from-row-on : (rs : List Row) (xs : List ℕ) (r : ℕ) (d : Row) → r < length rs → (rest : List ℕ) × (drop (5 * r) (flat_map row_words rs ++ xs) ≡ row_words (get_or rs r d) ++ rest)
from-row-on [] xs r d h = absurd (omega arith)
from-row-on (x ∷ rs) xs zero d h = (flat_map row_words rs ++ xs, refl)
from-row-on (x ∷ rs) xs (suc r) d h =
    let (rest, e) = from-row-on rs xs r d (omega arith) in
    let z : 5 * suc r ≡ suc (suc (suc (suc (suc (5 * r))))) = omega arith in
    (rest, ap (λ n. drop n (flat_map row_words (x ∷ rs) ++ xs)) z ∙ e)

with-back : (m : Option ℕ) → IfSome m (λ i. i < none) → with_of (with_word m) ≡ m
with-back None h = refl
with-back (Some i) h = cond-false (eqb i none) None (Some i) (ne_eqb i none (λ e. omega (arith, h)))

-- a row is read back from its words, if they tell its with from none
row-from : (row : Row) → IfSome row.rule.with (λ i. i < none) → row_from (row_words row) ≡ Some row
row-from row h =
    cond-true (leb (lane_word row.lane) lanes && leb (from_bool row.cross) 1) _ None
    (and_from (leb (lane_word row.lane) lanes) (leb (from_bool row.cross) 1) (lane row.lane).0 (cross row.cross).0)
    ∙ (λ i. Some (record { rule = record { from = row.rule.from; with = with-back row.rule.with h i; to = row.rule.to }; lane = (lane row.lane).1 i; cross = (cross row.cross).1 i }))
  where
    cross : (b : Bool) → (leb (from_bool b) 1 ≡ true) × (eqb (from_bool b) 1 ≡ b)
    cross true = (refl, refl)
    cross false = (refl, refl)

    lane : (l : Option Lane) → (leb (lane_word l) lanes ≡ true) × (lane_at (lane_word l) ≡ l)
    lane None = (refl, refl)
    lane (Some l) = let b = lane-back l in (le-leb (lane_number l) lanes (omega arith), b.1)

some-small : (n : ℕ) (m : Option ℕ) → n ≤ none → IfSome m (λ j. j < n) → IfSome m (λ j. j < none)
some-small n None l h = tt
some-small n (Some j) l h = omega (arith, h)

-- a row in range is read back
pub row-back : (a b c d : ℕ) (rs : List Row) (xs : List ℕ) (n r : ℕ) (o : Row) → r < length rs → InRange n (get_or rs r o).rule → n ≤ none →
    row_at n (a ∷ b ∷ c ∷ d ∷ (flat_map row_words rs ++ xs)) (row_start r) ≡ Some (get_or rs r o)
row-back a b c d rs xs n r o low range small =
    let ws : List ℕ = a ∷ b ∷ c ∷ d ∷ (flat_map row_words rs ++ xs) in
    let row : Row = get_or rs r o in
    let (rest, e) = from-row-on rs xs r o low in
    let z : 4 + 5 * r ≡ suc (suc (suc (suc (5 * r)))) = omega arith in
    let five : take 5 (drop (4 + 5 * r) ws) ≡ row_words row = ap (λ k. take 5 (drop k ws)) z ∙ ap (take 5) e in
    ap (λ w. row_within n (row_from w)) five
    ∙ ap (row_within n) (row-from row (some-small n row.rule.with small range.with))
    ∙ cond-true (in_range n row.rule) (Some row) None (range-in n row.rule range)
