-- Rows laid into words.
use Rattle.std.proofs.Common.{◌≡◌, ℕ, ◌+◌, ◌<◌, ◌≤◌, List, [], ◌∷◌, ◌++◌, length, get_or, drop, sym, refl, ap, ◌∙◌}
use Rattle.std.proofs.lemmas.List.{at_drop_more, at_drop_all}
use Rattle.graph.specs.declared.rows.Row.{Row}
use Rattle.std.specs.List.{flat_map}
use Rattle.graph.specs.Rules.{each}
use Rattle.graph.specs.declared.row_writers.RowWriter.{RowWriter}
use Rattle.graph.specs.RowWriters.{write_row, write_rows}

-- a sheet stays the same reference
pub lays-name : (s : RowWriter) (rs : List Row) → (write_rows s rs).words.ghost_name ≡ s.words.ghost_name
lays-name s [] = refl
lays-name s (r ∷ rs) = lays-name (write_row s r) rs

pub lays-append : (s : RowWriter) (xs ys : List Row) → write_rows s (xs ++ ys) ≡ write_rows (write_rows s xs) ys
lays-append s [] ys = refl
lays-append s (x ∷ xs) ys = lays-append (write_row s x) xs ys

-- a loop that lays what each element gives, with its place
module _ {A : Type 0} (f : ℕ → A → List Row) (xs : List A) (d : A) (k : ℕ) (s : RowWriter) (all : RowWriter) (inv : write_rows s (each f k (drop k xs)) ≡ all) where
  pub each_more : (t : RowWriter) → k < length xs → t ≡ write_rows s (f k (get_or xs k d)) → write_rows t (each f (k + 1) (drop (k + 1) xs)) ≡ all
  each_more t l e =
      ap (λ u. write_rows u (each f (k + 1) (drop (k + 1) xs))) e
      ∙ sym (lays-append s (f k (get_or xs k d)) (each f (k + 1) (drop (k + 1) xs)))
      ∙ sym (at_drop_more (λ ys. write_rows s (each f k ys)) xs k d l)
      ∙ inv

  pub each_all : length xs ≤ k → s ≡ all
  each_all l = sym (at_drop_all (λ ys. write_rows s (each f k ys)) xs k l) ∙ inv

-- a loop that lays what each of the elements to come gives
pub joined-more : {A : Type 0} (f : A → List Row) (a : A) (rest xs : List A) (s t all : RowWriter) → a ∷ rest ≡ xs → write_rows s (flat_map f xs) ≡ all → t ≡ write_rows s (f a) → write_rows t (flat_map f rest) ≡ all
joined-more f a rest xs s t all e inv h =
    ap (λ u. write_rows u (flat_map f rest)) h ∙ sym (lays-append s (f a) (flat_map f rest)) ∙ ap (λ ys. write_rows s (flat_map f ys)) e ∙ inv
