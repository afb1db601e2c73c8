-- What the trail number of an item tells.
use Rattle.std.proofs.Common.{◌≡◌, ℕ, ◌+◌, ◌<◌, ◌≤◌, Bool, true, false, cond, ◌||◌, eqb, List, [], ◌∷◌, length, is_some, take, Some, None, Option, option_map, refl, ◌∙◌, arith}
use Rattle.std.specs.Prelude.{IfSome}
use Rattle.std.proofs.lemmas.Option.{none-some, same_Some}
use Rattle.std.proofs.lemmas.List.{length-take-le}
use Rattle.session.specs.declared.trail.TrailRecord.{TrailRecord}
use Rattle.session.specs.Trails.{active, find, cause_of}

is-some-later : (o : Option ℕ) → is_some (option_map (λ k. k + 1) o) ≡ is_some o
is-some-later None = refl
is-some-later (Some k) = refl

-- an item has one if it is active
pub found-active : (t : List TrailRecord) (i : ℕ) → is_some (find t i) ≡ active t i
found-active [] i = refl
found-active (r ∷ t) i = go (eqb r.item i) (is-some-later (find t i) ∙ found-active t i)
  where
    go : (b : Bool) → is_some (option_map (λ k. k + 1) (find t i)) ≡ active t i → is_some (cond b (Some 0) (option_map (λ k. k + 1) (find t i))) ≡ (b || active t i)
    go true h = refl
    go false h = h

-- and it is that of a record
pub found-within : (t : List TrailRecord) (i k : ℕ) → find t i ≡ Some k → k < length t
found-within [] i k e = absurd (none-some k e)
found-within (r ∷ t) i k e = go (eqb r.item i) (find t i) (found-within t i) e
  where
    go : (b : Bool) (o : Option ℕ) → ((j : ℕ) → o ≡ Some j → j < length t) → cond b (Some 0) (option_map (λ k. k + 1) o) ≡ Some k → k < length (r ∷ t)
    go true o h q = let z : 0 ≡ k = same_Some 0 k q in omega arith
    go false None h q = absurd (none-some k q)
    go false (Some j) h q = let z : j + 1 ≡ k = same_Some (j + 1) k q in omega (arith, h j refl)

-- a cause, if there is one, is older than trail number k
abbrev pub Older : ℕ → Option ℕ → Type 0
Older k o = IfSome o (λ c. c < k)

-- a cause is older than the next record
pub cause-older : (places : List TrailRecord) (len : ℕ) → len ≤ length places → (b : Option ℕ) → Older len (cause_of (take len places) b)
cause-older places len held None = tt
cause-older places len held (Some i) = go (find (take len places) i) (found-within (take len places) i)
  where
    go : (o : Option ℕ) → ((k : ℕ) → o ≡ Some k → k < length (take len places)) → Older len o
    go None h = tt
    go (Some k) h = omega (arith, h k refl, length-take-le len places held)
