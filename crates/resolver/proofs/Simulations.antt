-- What holds of the requests, and is kept by each rule, holds of the least set: so two books are compared.
use Rattle.std.proofs.Common.{◌≡◌, ℕ, Bool, true, false, ◌⊎◌, List, refl, inl, inr}
use Rattle.std.specs.Prelude.{IsTrue, Contains}
use Rattle.std.proofs.lemmas.Option.{IfSome_then}
use Rattle.rulebook.specs.Tables.{Table}
use Rattle.session.specs.Least.{Closed, Least}

abbrev pub Decided : Type 0 → Type 0
Decided P = P ⊎ (P → ⊥)

pub decide : (b : Bool) → Decided (IsTrue b)
decide true = inl refl
decide false = inr (λ (x : false ≡ true). cc)

pub both : {P Q : Type 0} → Decided P → Decided Q → Decided (P × Q)
both (inl p) (inl q) = inl (p, q)
both (inl p) (inr n) = inr (λ z. n z.1)
both (inr n) d = inr (λ z. n z.0)

module _ {P : Type 0} where
  abbrev answer : Decided P → Bool
  answer (inl p) = true
  answer (inr n) = false

  yes : (d : Decided P) → P → IsTrue (answer d)
  yes (inl p) q = refl
  yes (inr n) q = absurd (n q)

  holds : (d : Decided P) → IsTrue (answer d) → P
  holds (inl p) q = p
  holds (inr n) q = absurd (cc)

-- the least set lies in every set that is decided, holds the requests and is closed
pub least-within : (t : Table) (xs : List ℕ) (P : ℕ → Type 0) → ((i : ℕ) → Decided (P i)) → ((i : ℕ) → Contains xs i → P i) → Closed t P → (i : ℕ) → Least t xs i → P i
least-within t xs P decided asked closed i least =
    holds (decided i) (least (λ j. answer (decided j))
    (λ j o. yes (decided j) (asked j o))
    (λ j r e q x y. yes (decided e.conclusion) (closed j r e q (holds (decided j) x) (IfSome_then e.partner y (λ k. holds (decided k))))))

-- item j of u's least set answers for item i of t's: for each set Y, P Y holds of the requests of t if Y holds those of
-- u, each rule of t keeps it if each rule of u keeps Y, and of i it says that j is in Y
pub least-simulates : (t u : Table) (xs ys : List ℕ) (P : (ℕ → Bool) → ℕ → Type 0) →
    ((Y : ℕ → Bool) (k : ℕ) → Decided (P Y k)) →
    ((Y : ℕ → Bool) → ((k : ℕ) → Contains ys k → IsTrue (Y k)) → (k : ℕ) → Contains xs k → P Y k) →
    ((Y : ℕ → Bool) → Closed u (λ k. IsTrue (Y k)) → Closed t (P Y)) →
    (i j : ℕ) → ((Y : ℕ → Bool) → P Y i → IsTrue (Y j)) → Least t xs i → Least u ys j
least-simulates t u xs ys P decided asked kept i j says least =
    λ Y given closed. says Y (least-within t xs (P Y) (decided Y) (asked Y given) (kept Y closed) i least)
