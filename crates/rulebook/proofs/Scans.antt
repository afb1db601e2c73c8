-- How a search for the first entry goes on, row by row.
use Rattle.std.proofs.Common.{◌≡◌, ℕ, zero, suc, ◌+◌, ◌-◌, ◌<◌, ◌≤◌, Some, None, Option, sym, refl, ap, ◌∙◌, ⊎_elim, arith}
use Rattle.std.proofs.lemmas.Bool.{cases_lt}
use Rattle.std.specs.Bool.{IsTrue}
use Rattle.std.specs.Option.{IfSome, IsSomeAnd, MatchOption, option_map}
use Rattle.std.specs.Fn.{Called}
use Rattle.std.specs.Iterator.Runs.{Run, ItemsCountUp, CallKeepsClosure, AllItemsGive, IsFirstToGive}
use denote.Param.Members.{Mut}
use Rattle.rulebook.specs.declared.entries.RowEntry.{RowEntry}
use Rattle.rulebook.specs.declared.entries.WatchEntry.{WatchEntry}
use Rattle.rulebook.specs.Tables.{or_later, first_of}

module _ (entry : ℕ → Option WatchEntry) (n r : ℕ) where
  -- there is a row more
  pub first_more : r < n → first_of entry r (n - r) ≡ or_later (entry r) r (first_of entry (r + 1) (n - (r + 1)))
  first_more h = let z : n - r ≡ suc (n - (r + 1)) = omega arith in ap (first_of entry r) z

  pub first-all : n ≤ r → first_of entry r (n - r) ≡ None
  first-all h = let z : n - r ≡ 0 = omega arith in ap (first_of entry r) z

  pub first-miss : r < n → entry r ≡ None → first_of entry r (n - r) ≡ first_of entry (r + 1) (n - (r + 1))
  first-miss h none = first_more h ∙ ap (λ o. or_later o r (first_of entry (r + 1) (n - (r + 1)))) none

-- without entries nothing is found
pub first-none : (entry : ℕ → Option WatchEntry) (r n : ℕ) → ((k : ℕ) → entry k ≡ None) → first_of entry r n ≡ None
first-none entry r zero h = refl
first-none entry r (suc n) h = ap (λ o. or_later o r (first_of entry (r + 1) n)) (h r) ∙ first-none entry (r + 1) n h

-- what a search answers at a row
hit-later : (o : Option WatchEntry) (r : ℕ) (later : Option RowEntry) (y : RowEntry) → Some y ≡ or_later o r None → or_later o r later ≡ Some y
hit-later None r later y h = absurd (let z : ◌≡◌ {A = ℕ} 0 1 = cc in omega arith)
hit-later (Some e) r later y h = sym h

none-later : (o : Option WatchEntry) (r : ℕ) → None ≡ or_later o r None → o ≡ None
none-later None r h = refl
none-later (Some e) r h = absurd (let z : ◌≡◌ {A = ℕ} 0 1 = cc in omega arith)

both : {A : Type 0} {P Q : A → Type 0} (o : Option A) → IfSome o P → IsSomeAnd o Q → (x : A) × P x × Q x
both None p q = absurd q
both (Some x) p q = (x, p, q)

some-given : {A : Type 0} (Q : A → Type 0) (x : A) (o : Option A) → option_map (λ y. y) o ≡ Some x → IfSome o Q → IsSomeAnd o Q
some-given Q x None e q = absurd (let z : ◌≡◌ {A = ℕ} 0 1 = cc in omega arith)
some-given Q x (Some y) e q = q

-- `find_map` over the rows from a up to b, with a closure that answers the entry of a row
module _ {S F : Type 0} {steps : S → Option ℕ → S → Type 0} (g : Mut F (ℕ × Unit {0}) (Option RowEntry)) (f : F) (entry : ℕ → Option WatchEntry) (acts : (k : ℕ) (r : Option RowEntry) (q : F) → Called g f (k, tt) r q → (q ≡ f) × (r ≡ or_later (entry k) k None))
    (p : Run steps) (a b : ℕ) (up : ItemsCountUp p a b) where
  keeps : CallKeepsClosure g f
  keeps k r q h = (acts k.0 r q h).0

  skip : (i : ℕ) → a + i ≤ b → ((j : ℕ) → j < i → entry (a + j) ≡ None) → first_of entry a (b - a) ≡ first_of entry (a + i) (b - (a + i))
  skip zero l h = let z : a ≡ a + 0 = omega arith in ap (λ k. first_of entry k (b - k)) z
  skip (suc i) l h =
      let z : (a + i) + 1 ≡ a + suc i = omega arith in
      skip i (omega arith) (λ j m. h j (omega arith)) ∙ first-miss entry b (a + i) (omega arith) (h i (omega arith)) ∙ ap (λ k. first_of entry k (b - k)) z

  missed : (j : ℕ) → IsSomeAnd (p.at j) (λ x. Called g f (x, tt) None f) → entry (a + j) ≡ None
  missed j h =
      let (x, at, called) = both (p.at j) (up.2 j) h in
      ap entry (sym at.0) ∙ none-later (entry x) x (acts x None f called).1

  pub first-found : (r : Option RowEntry) → MatchOption r (IsTrue p.whole × AllItemsGive p g f None) (λ y. (i : ℕ) × (i < p.len) × (p.len ≡ i + 1) × IsFirstToGive p g f (Some y) None i) → r ≡ first_of entry a (b - a)
  first-found None h = ⊎_elim
      (λ (l : a < b).
      let n : p.len ≡ b - a = up.1 h.0 in
      let z : a + (b - a) ≡ b = omega arith in
      let there : (j : ℕ) → j < b - a → IsSomeAnd (p.at j) (λ x. Called g f (x, tt) None f) = λ j m. some-given _ (a + j) (p.at j) (up.3 j (omega arith)) (h.1 keeps j) in
      sym (skip (b - a) (omega arith) (λ j m. missed j (there j m)) ∙ first-all entry b (a + (b - a)) (omega arith)))
      (λ (l : b ≤ a). sym (first-all entry b a l))
      (cases_lt a b)
  first-found (Some y) h =
      let (i, l, e, first) = h in
      let (x, at, called) = both (p.at i) (up.2 i) (first keeps).0 in
      let hit : Some y ≡ or_later (entry (a + i)) (a + i) None = (acts x (Some y) f called).1 ∙ ap (λ k. or_later (entry k) k None) at.0 in
      sym (skip i (omega arith) (λ j m. missed j ((first keeps).1 j m)) ∙ first_more entry b (a + i) (omega arith) ∙ hit-later (entry (a + i)) (a + i) _ y hit)
