-- Trails that get one record more.
use Rattle.std.proofs.Common.{◌≡◌, ℕ, zero, suc, ◌+◌, ◌<◌, ◌≤◌, Bool, true, false, cond, eqb, ◌⊎◌, List, [], ◌∷◌, ◌++◌, map, length, get_or, Some, option_map, sym, refl, ap, ◌∙◌, subst, inl, inr, ⊎_elim, arith}
use Rattle.std.proofs.lemmas.List.{length-append, length-map, get_or_append_left, get_or-map}
use Rattle.std.proofs.Math.Seq.{get_or-append_seam}
use Rattle.std.proofs.lemmas.Bool.{cond-true, cond-false, eqb-true, eqb-false, ne_eqb, or_parts, cases_lt}
use Rattle.std.proofs.lemmas.List.Folds.{Any-from_list_any}
use Rattle.std.proofs.lemmas.Map.Keys.{IsDistinct-from_apart}
use Rattle.std.proofs.lemmas.Map.Steps.{length-le_from_distinct_below}
use Rattle.session.specs.declared.trail.TrailRecord.{TrailRecord}
use Rattle.session.specs.Trails.{active, find, no_record, Below, Apart, FirstOlder, SecondOlder}
use Rattle.session.proofs.Finding.{Older}

-- a record of a trail on which an item is not active is of another item
pub other-item : (t : List TrailRecord) (i k : ℕ) → active t i ≡ false → k < length t → (get_or t k no_record).item ≡ i → ⊥
other-item [] i k off l e = omega arith
other-item (r ∷ t) i zero off l e = eqb-false r.item i (or_parts (eqb r.item i) (active t i) off).0 e
other-item (r ∷ t) i (suc k) off l e = other-item t i k (or_parts (eqb r.item i) (active t i) off).1 (omega arith) e

-- the trail number of an item after one record more
pub find-more : (t : List TrailRecord) (x : TrailRecord) (i : ℕ) → active t x.item ≡ false → find (t ++ x ∷ []) i ≡ cond (eqb x.item i) (Some (length t)) (find t i)
find-more [] x i off = refl
find-more (r ∷ t) x i off =
    let o = or_parts (eqb r.item x.item) (active t x.item) off in
    go (eqb r.item i) (eqb x.item i) refl refl o.0 (find-more t x i o.1)
  where
    go : (a b : Bool) → eqb r.item i ≡ a → eqb x.item i ≡ b → eqb r.item x.item ≡ false → find (t ++ x ∷ []) i ≡ cond (eqb x.item i) (Some (length t)) (find t i) →
        cond a (Some 0) (option_map (λ k. k + 1) (find (t ++ x ∷ []) i)) ≡ cond b (Some (suc (length t))) (cond a (Some 0) (option_map (λ k. k + 1) (find t i)))
    go true true p q o h = absurd (eqb-false r.item x.item o (eqb-true r.item i p ∙ sym (eqb-true x.item i q)))
    go true false p q o h = refl
    go false true p q o h = let z : length t + 1 ≡ suc (length t) = omega arith in ap (option_map (λ k. k + 1)) (h ∙ cond-true (eqb x.item i) _ _ q) ∙ ap (λ n. Some n) z
    go false false p q o h = ap (option_map (λ k. k + 1)) (h ∙ cond-false (eqb x.item i) _ _ q)

module _ (n : ℕ) (t : List TrailRecord) (x : TrailRecord) (low : x.item < n) (off : active t x.item ≡ false) where
  abbrev after : List TrailRecord
  after = t ++ x ∷ []

  size : length after ≡ length t + 1
  size = length-append t (x ∷ [])

  old : (k : ℕ) → k < length t → get_or after k no_record ≡ get_or t k no_record
  old k l = get_or_append_left t (x ∷ []) no_record k l

  new : (k : ℕ) → k ≡ length t → get_or after k no_record ≡ x
  new k e = ap (λ j. get_or after j no_record) e ∙ get_or-append_seam t x [] no_record

  -- a record of the longer trail is an older one, or the last
  either : (k : ℕ) → k < length after → (k < length t) ⊎ (k ≡ length t)
  either k l = ⊎_elim (λ (w : k < length t). inl w) (λ (w : length t ≤ k). inr (omega (arith, size))) (cases_lt k (length t))

  pub more-below : Below n t → Below n after
  more-below below k l = ⊎_elim
      (λ w. subst (λ r. r.item < n) (sym (old k w)) (below k w))
      (λ e. subst (λ r. r.item < n) (sym (new k e)) low)
      (either k l)

  pub more-apart : Apart t → Apart after
  more-apart apart j k d l e = ⊎_elim
      (λ w. let u : j < length t = omega arith in apart j k d w (ap (λ r. r.item) (sym (old j u)) ∙ e ∙ ap (λ r. r.item) (old k w)))
      (λ z. let u : j < length t = omega arith in other-item t x.item j off u (ap (λ r. r.item) (sym (old j u)) ∙ e ∙ ap (λ r. r.item) (new k z)))
      (either k l)

  pub more-first : Older (length t) x.first → FirstOlder t → FirstOlder after
  more-first older first k c l e = ⊎_elim
      (λ w. first k c w (ap (λ r. r.first) (sym (old k w)) ∙ e))
      (λ z. let o = subst (Older (length t)) (ap (λ r. r.first) (sym (new k z)) ∙ e) older in omega (arith, o))
      (either k l)

  pub more-second : Older (length t) x.second → SecondOlder t → SecondOlder after
  more-second older second k c l e = ⊎_elim
      (λ w. second k c w (ap (λ r. r.second) (sym (old k w)) ∙ e))
      (λ z. let o = subst (Older (length t)) (ap (λ r. r.second) (sym (new k z)) ∙ e) older in omega (arith, o))
      (either k l)

-- items of a trail differ and are below the count, so that there are no more of them
pub at-most : (n : ℕ) (t : List TrailRecord) → Below n t → Apart t → length t ≤ n
at-most n t below apart =
    let items = map (λ (r : TrailRecord). r.item) t in
    let m : length items ≡ length t = length-map t (λ (r : TrailRecord). r.item) in
    let at : (k d : ℕ) → k < length items → get_or items k d ≡ (get_or t k no_record).item = λ k d l. get_or-map (λ (r : TrailRecord). r.item) t k no_record d (omega (arith, m)) in
    let distinct = IsDistinct-from_apart eqb items (λ i j d o l.
    let u : i < length items = omega arith in
    let v : j < length t = omega (arith, m) in
    ne_eqb _ _ (λ e. apart i j o v (sym (at i d u) ∙ e ∙ at j d l))) in
    let few = length-le_from_distinct_below items n distinct (λ q h.
    let y = Any-from_list_any (eqb q) items h in
    let w : y.0 < length t = omega (arith, y.2, m) in
    let e : (get_or t y.0 no_record).item ≡ q = sym (at y.0 y.1 y.2) ∙ y.3 ∙ sym (eqb-true q _ y.4) in
    subst (λ i. i < n) e (below y.0 w)) in
    omega (arith, few, m)

-- and there is room for one more that is not among them
pub room : (n : ℕ) (t : List TrailRecord) (x : TrailRecord) → x.item < n → active t x.item ≡ false → Below n t → Apart t → length t < n
room n t x low off below apart = omega (arith, at-most n (t ++ x ∷ []) (more-below n t x low off below) (more-apart n t x low off apart), length-append t (x ∷ []))
