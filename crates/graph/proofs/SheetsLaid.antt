-- What the words hold, and the count, after rows are laid into them.
use Rattle.std.proofs.Common.{◌≡◌, ℕ, suc, ◌+◌, ◌*◌, ◌≤◌, min, List, [], ◌∷◌, ◌++◌, length, take, drop, sym, ap, ◌∙◌, arith}
use Rattle.std.proofs.lemmas.List.{append_assoc, length-append, length-drop, length-take-le, take-append-drop, take_at, drop_at, drop-drop}
use Rattle.std.proofs.lemmas.Bool.{cond-true, le-leb}
use Rattle.std.specs.List.{flat_map}
use Rattle.graph.specs.declared.rows.Row.{Row}
use Rattle.graph.specs.declared.row_writers.RowWriter.{RowWriter}
use Rattle.graph.specs.Words.{row_words}
use Rattle.graph.specs.Limits.{max_rule_rows}
use Rattle.graph.specs.RowWriters.{put, with_row, more, write_row, write_rows}

-- the count grows by one at each row, up to one past the limit
count-from : (s : RowWriter) (rs : List Row) → s.count ≤ max_rule_rows + 1 → (write_rows s rs).count ≡ min (s.count + length rs) (max_rule_rows + 1)
count-from s [] l = omega arith
count-from s (r ∷ rs) l = count-from (write_row s r) rs (omega arith) ∙ omega arith

-- from the start: the number of rows, or one past the limit
pub count-laid : (s : RowWriter) (rs : List Row) → s.count ≡ 0 → (write_rows s rs).count ≡ min (length rs) (max_rule_rows + 1)
count-laid s rs z = count-from s rs (omega arith) ∙ omega arith

-- five words put at a place: what stands before and with them, what follows, and the length
module _ (ws : List ℕ) (at : ℕ) (r : Row) (room : at + 5 ≤ length ws) where
  front : length (take at ws ++ row_words r) ≡ at + 5
  front = length-append (take at ws) (row_words r) ∙ omega (arith, length-take-le at ws (omega arith))

  split : put ws at (row_words r) ≡ (take at ws ++ row_words r) ++ drop (at + 5) ws
  split = sym (append_assoc (take at ws) (row_words r) (drop (at + 5) ws))

  put-take : take (at + 5) (put ws at (row_words r)) ≡ take at ws ++ row_words r
  put-take = ap (take (at + 5)) split ∙ take_at (take at ws ++ row_words r) (drop (at + 5) ws) (at + 5) front

  put-drop : (m : ℕ) → drop ((at + 5) + m) (put ws at (row_words r)) ≡ drop ((at + 5) + m) ws
  put-drop m =
      sym (drop-drop m (at + 5) (put ws at (row_words r)))
      ∙ ap (drop m) (ap (drop (at + 5)) split ∙ drop_at (take at ws ++ row_words r) (drop (at + 5) ws) (at + 5) front)
      ∙ drop-drop m (at + 5) ws

  put-length : length (put ws at (row_words r)) ≡ length ws
  put-length = ap length split ∙ length-append (take at ws ++ row_words r) (drop (at + 5) ws) ∙ omega (arith, front, length-drop (at + 5) ws)

-- rows laid after others
words-from : (s : RowWriter) (rs : List Row) → s.count + length rs ≤ max_rule_rows → 4 + 5 * (s.count + length rs) ≤ length s.words.now → (write_rows s rs).words.now ≡ take (4 + 5 * s.count) s.words.now ++ (flat_map row_words rs ++ drop (4 + 5 * (s.count + length rs)) s.words.now)
words-from s [] l room =
    let z : 4 + 5 * s.count ≡ 4 + 5 * (s.count + 0) = omega arith in
    sym (take-append-drop (4 + 5 * s.count) s.words.now) ∙ ap (λ m. take (4 + 5 * s.count) s.words.now ++ drop m s.words.now) z
words-from s (r ∷ rs) l room =
    let n : ℕ = s.count in
    let ws : List ℕ = s.words.now in
    let at : ℕ = 4 + 5 * n in
    let here : at + 5 ≤ length ws = omega arith in
    let c : more n ≡ n + 1 = omega arith in
    let w : with_row ws n r ≡ put ws at (row_words r) = cond-true _ (put ws at (row_words r)) ws (le-leb (at + 5) (length ws) here) in
    let long : length (with_row ws n r) ≡ length ws = ap length w ∙ put-length ws at r here in
    let t : 4 + 5 * more n ≡ at + 5 = omega arith in
    let d : 4 + 5 * (more n + length rs) ≡ (at + 5) + 5 * length rs = omega arith in
    let b : (at + 5) + 5 * length rs ≡ 4 + 5 * (n + suc (length rs)) = omega arith in
    words-from (write_row s r) rs (omega arith) (omega arith)
    ∙ (λ i. take (t i) (w i) ++ (flat_map row_words rs ++ drop (d i) (w i)))
    ∙ (λ i. put-take ws at r here i ++ (flat_map row_words rs ++ put-drop ws at r here (5 * length rs) i))
    ∙ append_assoc (take at ws) (row_words r) (flat_map row_words rs ++ drop ((at + 5) + 5 * length rs) ws)
    ∙ (λ i. take at ws ++ (row_words r ++ (flat_map row_words rs ++ drop (b i) ws)))

-- rows laid from the start: the first four words stay, then the words of the rows, then what was there
pub words-laid : (s : RowWriter) (rs : List Row) → s.count ≡ 0 → length rs ≤ max_rule_rows → 4 + 5 * length rs ≤ length s.words.now → (write_rows s rs).words.now ≡ take 4 s.words.now ++ (flat_map row_words rs ++ drop (4 + 5 * length rs) s.words.now)
words-laid s rs z l room =
    let x : 4 + 5 * s.count ≡ 4 = omega arith in
    let y : 4 + 5 * (s.count + length rs) ≡ 4 + 5 * length rs = omega arith in
    words-from s rs (omega arith) (omega arith) ∙ (λ i. take (x i) s.words.now ++ (flat_map row_words rs ++ drop (y i) s.words.now))
