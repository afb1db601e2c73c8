-- The items of a rule are below a count, as a test and as facts.
use Rattle.std.proofs.Common.{◌≡◌, ℕ, ◌<◌, true, List, take, drop, Some, None, Option, refl, IfSome, arith}
use Rattle.graph.specs.declared.rows.ItemRule.{ItemRule}
use Rattle.graph.specs.declared.rows.Row.{Row}
use Rattle.graph.specs.Limits.{row_width}
use Rattle.graph.specs.Words.{is_below, in_range, row_within, row_from, row_at}

pub record InRange (n : ℕ) (ρ : ItemRule) : Type 0 where
  pub from : ρ.from < n
  pub to : ρ.to < n
  pub with : IfSome ρ.with (λ j. j < n)

below-some : (n : ℕ) (m : Option ℕ) → is_below n m ≡ true → IfSome m (λ j. j < n)
below-some n None h = tt
below-some n (Some j) h = grind arith

some-below : (n : ℕ) (m : Option ℕ) → IfSome m (λ j. j < n) → is_below n m ≡ true
some-below n None h = refl
some-below n (Some j) h = grind arith

pub in-range : (n : ℕ) (ρ : ItemRule) → in_range n ρ ≡ true → InRange n ρ
in-range n ρ h = record { from = grind arith; to = grind arith; with = below-some n ρ.with (grind arith) }

pub range-in : (n : ℕ) (ρ : ItemRule) → InRange n ρ → in_range n ρ ≡ true
range-in n ρ h = let w = some-below n ρ.with h.with in grind arith

-- the items of a row that is read are there
pub read-range : (n : ℕ) (ws : List ℕ) (start : ℕ) (row : Row) → row_at n ws start ≡ Some row → InRange n row.rule
read-range n ws start row h = in-range n row.rule (go (row_from (take row_width (drop start ws))) h)
  where
    go : (o : Option Row) → row_within n o ≡ Some row → in_range n row.rule ≡ true
    go None e = grind arith
    go (Some w) e = grind arith
