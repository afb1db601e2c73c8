-- Active items of a trail and of its parts, and what stands at a place of it.
use Rattle.std.proofs.Common.{◌≡◌, ℕ, zero, suc, ◌<◌, ◌||◌, eqb, ◌⊎◌, List, [], ◌∷◌, ◌++◌, length, take, drop, sym, refl, ap, ◌∙◌, subst, arith, length-drop, eqb-true, eq-eqb}
use Rattle.std.specs.Prelude.{IsTrue}
use Rattle.std.proofs.Math.Bool.{or-false}
use Rattle.std.proofs.lemmas.Bool.{or_cases, or_left, or_right}
use Rattle.std.proofs.lemmas.List.{take-append-drop}
use Rattle.std.proofs.lemmas.List.Folds.{list_any-append}
use Rattle.session.specs.declared.trail.TrailRecord.{TrailRecord}
use Rattle.session.specs.Trails.{active}
use Rattle.session.specs.States.{State}

pub active-append : (s t : List TrailRecord) (i : ℕ) → active (s ++ t) i ≡ (active s i || active t i)
active-append s t i = list_any-append (λ (r : TrailRecord). eqb r.item i) s t

pub active-left : (s t : List TrailRecord) (i : ℕ) → IsTrue (active s i) → IsTrue (active (s ++ t) i)
active-left s t i h = active-append s t i ∙ or_left (active s i) (active t i) h

pub active-right : (s t : List TrailRecord) (i : ℕ) → IsTrue (active t i) → IsTrue (active (s ++ t) i)
active-right s t i h = active-append s t i ∙ or_right (active s i) (active t i) h

pub active-cases : (s t : List TrailRecord) (i : ℕ) → IsTrue (active (s ++ t) i) → IsTrue (active s i) ⊎ IsTrue (active t i)
active-cases s t i h = or_cases (active s i) (active t i) (sym (active-append s t i) ∙ h)

pub active-one : (x : TrailRecord) (i : ℕ) → IsTrue (active (x ∷ []) i) → x.item ≡ i
active-one x i h = eqb-true x.item i (sym (or-false (eqb x.item i)) ∙ h)

pub active-head : (x : TrailRecord) (t : List TrailRecord) → IsTrue (active (x ∷ t) x.item)
active-head x t = or_left (eqb x.item x.item) (active t x.item) (eq-eqb x.item x.item refl)

-- one record more
pub active-push : (t : List TrailRecord) (x : TrailRecord) (i : ℕ) → active (t ++ x ∷ []) i ≡ (active t i || eqb x.item i)
active-push t x i = active-append t (x ∷ []) i ∙ ap (λ b. active t i || b) (or-false (eqb x.item i))

-- the first record of a trail is of item i
abbrev pub Head : List TrailRecord → ℕ → Type 0
Head [] i = ⊥
Head (x ∷ t) i = x.item ≡ i

pub head-active : (t : List TrailRecord) (i : ℕ) → Head t i → IsTrue (active t i)
head-active [] i h = absurd h
head-active (x ∷ t) i h = subst (λ j. IsTrue (active (x ∷ t) j)) h (active-head x t)

-- what stands from place p on tells what stands from the next place on, and what stands before it
pub drop_next : {A : Type 0} (p : ℕ) (t : List A) (x : A) (xs : List A) → drop p t ≡ x ∷ xs → drop (suc p) t ≡ xs
drop_next zero [] x xs h = cc
drop_next zero (y ∷ t) x xs h = cc
drop_next (suc p) [] x xs h = cc
drop_next (suc p) (y ∷ t) x xs h = drop_next p t x xs h

pub take_next : {A : Type 0} (p : ℕ) (t : List A) (x : A) (xs : List A) → drop p t ≡ x ∷ xs → take (suc p) t ≡ take p t ++ x ∷ []
take_next zero [] x xs h = cc
take_next zero (y ∷ t) x xs h = cc
take_next (suc p) [] x xs h = cc
take_next (suc p) (y ∷ t) x xs h = ap (λ l. y ∷ l) (take_next p t x xs h)

abbrev pub Active : State → ℕ → Type 0
Active s i = IsTrue (active s.trail i)

-- the worked place is at x, with xs behind it
abbrev pub At : State → TrailRecord → List TrailRecord → Type 0
At s x xs = drop s.position s.trail ≡ x ∷ xs

pub at-active : (s : State) (x : TrailRecord) (xs : List TrailRecord) → At s x xs → Active s x.item
at-active s x xs d = subst (λ l. IsTrue (active l x.item)) (take-append-drop s.position s.trail)
    (active-right (take s.position s.trail) (drop s.position s.trail) x.item (subst (λ l. IsTrue (active l x.item)) (sym d) (active-head x xs)))

pub at-inside : (s : State) (x : TrailRecord) (xs : List TrailRecord) → At s x xs → s.position < length s.trail
at-inside s x xs d = omega (arith, length-drop s.position s.trail, ap length d)
