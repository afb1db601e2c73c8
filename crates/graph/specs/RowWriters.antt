-- Rows written into words, one after the other.
use Rattle.std.specs.Prelude.{if◌then◌else◌, ℕ, ◌+◌, min, List, [], ◌∷◌, ◌++◌, length, take, drop, nat_le}
use Rattle.std.specs.Borrow.{MutBor}
use Rattle.graph.specs.declared.rows.Row.{Row}
use Rattle.graph.specs.declared.row_writers.RowWriter.{RowWriter}
use Rattle.graph.specs.Words.{row_words, row_start}
use Rattle.graph.specs.Limits.{max_rule_rows, row_width}

-- five words in the place of as many
abbrev pub put : List ℕ → ℕ → List ℕ → List ℕ
put ws at five = take at ws ++ (five ++ drop (at + row_width) ws)

-- the words of row n, where there is room for them
abbrev pub with_row : List ℕ → ℕ → Row → List ℕ
with_row ws n r =
    if nat_le (row_start n + row_width) (length ws)
    then put ws (row_start n) (row_words r)
    else ws

-- the count stops one past the limit
abbrev pub more : ℕ → ℕ
more n = min (n + 1) (max_rule_rows + 1)

-- the same reference, to other words
abbrev pub holding : MutBor (List ℕ) → List ℕ → MutBor (List ℕ)
holding r ws = record { ref_ptr = r.ref_ptr; ghost_name = r.ghost_name; now = ws }

abbrev pub write_row : RowWriter → Row → RowWriter
write_row w r = record { words = holding w.words (with_row w.words.now w.count r); count = more w.count }

abbrev pub write_rows : RowWriter → List Row → RowWriter
write_rows w [] = w
write_rows w (r ∷ rs) = write_rows (write_row w r) rs
