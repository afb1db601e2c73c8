-- Sums over the active items, and over the records of a trail.
use Rattle.std.proofs.Common.{◌≡◌, ℕ, zero, suc, ◌+◌, ◌*◌, ◌<◌, ◌≤◌, Bool, true, false, cond, ◌||◌, eqb, List, [], ◌∷◌, ◌++◌, length, sym, refl, ap, ◌∙◌, ⊎_elim, arith, suc-mul, eq-eqb, ne_eqb}
use Rattle.std.specs.List.{sum_by}
use Rattle.std.proofs.lemmas.Bool.{cases_eq, cases_lt, or_right}
use Rattle.std.proofs.lemmas.List.Sums.{sum_by-cons, sum_by_push}
use Rattle.session.specs.declared.trail.TrailRecord.{TrailRecord}
use Rattle.session.specs.Trails.{active}
use Rattle.session.specs.SessionLaw.{sum_active}
use Rattle.session.proofs.TrailFacts.{active-push}

-- the sum of a weight over the records of a trail
abbrev pub total : (ℕ → ℕ) → List TrailRecord → ℕ
total w t = sum_by (λ x. w x.item) t

-- an item that is not the one that joins is active as before
active-other : (t : List TrailRecord) (x : TrailRecord) (i : ℕ) → (x.item ≡ i → ⊥) → active (t ++ x ∷ []) i ≡ active t i
active-other t x i other = active-push t x i ∙ go (active t i) (eqb x.item i) (ne_eqb x.item i other)
  where
    go : (a b : Bool) → b ≡ false → (a || b) ≡ a
    go true b h = refl
    go false b h = h

active-joined : (t : List TrailRecord) (x : TrailRecord) (i : ℕ) → x.item ≡ i → active (t ++ x ∷ []) i ≡ true
active-joined t x i same = active-push t x i ∙ or_right (active t i) (eqb x.item i) (eq-eqb x.item i same)

module _ (w : ℕ → ℕ) where
  pub sum_active-none : (m : ℕ) → sum_active w [] m ≡ 0
  sum_active-none zero = refl
  sum_active-none (suc m) = omega (arith, sum_active-none m)

  -- one more active item, at or past the limit
  sum_active-past : (t : List TrailRecord) (x : TrailRecord) (m : ℕ) → m ≤ x.item → sum_active w (t ++ x ∷ []) m ≡ sum_active w t m
  sum_active-past t x zero le = refl
  sum_active-past t x (suc m) le =
      let h = sum_active-past t x m (omega arith) in
      let c = ap (λ b. cond b (w m) 0) (active-other t x m (λ z. omega arith)) in
      omega arith

  -- one more active item, below the limit
  pub sum_active-push : (t : List TrailRecord) (x : TrailRecord) (m : ℕ) → x.item < m → active t x.item ≡ false → sum_active w (t ++ x ∷ []) m ≡ sum_active w t m + w x.item
  sum_active-push t x zero lt off = absurd (omega arith)
  sum_active-push t x (suc m) lt off = ⊎_elim
      (λ (z : x.item < m).
      let h = sum_active-push t x m z off in
      let c = ap (λ b. cond b (w m) 0) (active-other t x m (λ y. omega arith)) in
      omega arith)
      (λ (z : m ≤ x.item).
      let h = sum_active-past t x m z in
      let e : x.item ≡ m = omega arith in
      let c = ap (λ b. cond b (w m) 0) (active-joined t x m e) in
      let d = ap (λ b. cond b (w m) 0) (ap (active t) (sym e) ∙ off) in
      let v = ap w e in
      omega arith)
      (cases_lt x.item m)

  -- items without weight from n on add nothing
  pub sum_active-beyond : (t : List TrailRecord) (n m : ℕ) → n ≤ m → ((i : ℕ) → n ≤ i → w i ≡ 0) → sum_active w t m ≡ sum_active w t n
  sum_active-beyond t n zero le none = let e : 0 ≡ n = omega arith in ap (sum_active w t) e
  sum_active-beyond t n (suc m) le none = ⊎_elim
      (λ (z : n < suc m).
      let h = sum_active-beyond t n m (omega arith) none in
      let c = one (active t m) (none m (omega arith)) in
      omega arith)
      (λ (z : suc m ≤ n). let e : suc m ≡ n = omega arith in ap (sum_active w t) e)
      (cases_lt n (suc m))
    where
      one : (b : Bool) → w m ≡ 0 → cond b (w m) 0 ≡ 0
      one true h = h
      one false h = refl

  -- no more than the greatest weight for each item
  pub sum_active-most : (k : ℕ) → ((i : ℕ) → w i ≤ k) → (t : List TrailRecord) (m : ℕ) → sum_active w t m ≤ m * k
  sum_active-most k most t zero = omega arith
  sum_active-most k most t (suc m) = rw suc-mul (omega (arith, sum_active-most k most t m, one (active t m)))
    where
      one : (b : Bool) → cond b (w m) 0 ≤ k
      one true = most m
      one false = omega arith

  pub total-push : (t : List TrailRecord) (x : TrailRecord) → total w (t ++ x ∷ []) ≡ total w t + w x.item
  total-push t x = sum_by_push (λ y. w y.item) t x

pub total-length : (t : List TrailRecord) → total (λ _. 1) t ≡ length t
total-length [] = refl
total-length (x ∷ t) = omega (arith, sum_by-cons (λ (y : TrailRecord). 1) x t, total-length t)

-- fewer than m items below m are active where one of these is not
pub sum_active_less : (t : List TrailRecord) (m i : ℕ) → i < m → active t i ≡ false → sum_active (λ _. 1) t m < m
sum_active_less t zero i lt off = absurd (omega arith)
sum_active_less t (suc m) i lt off = ⊎_elim
    (λ (z : i ≡ m).
    let c : ◌≡◌ {A = ℕ} (cond (active t m) 1 0) 0 = ap (λ b. cond {A = ℕ} b 1 0) (ap (active t) (sym z) ∙ off) in
    omega (arith, sum_active-most (λ _. 1) 1 (λ _. omega arith) t m))
    (λ (z : i ≡ m → ⊥). omega (arith, sum_active_less t m i (omega arith) off, one (active t m)))
    (cases_eq i m)
  where
    one : (b : Bool) → cond b 1 0 ≤ 1
    one true = omega arith
    one false = omega arith
