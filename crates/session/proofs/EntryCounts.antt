-- Watch entries: those of an item below a row, and those of a trail before a worked place.
use Rattle.std.proofs.Common.{◌≡◌, ℕ, zero, suc, ◌+◌, ◌*◌, ◌<◌, ◌≤◌, Bool, true, false, cond, List, [], ◌∷◌, ◌++◌, length, drop, is_some, Some, None, Option, sym, refl, ap, ◌∙◌, subst, ⊎_elim, arith, add-one, mul-le-mul_right}
use Rattle.std.proofs.lemmas.Bool.{cases_lt}
use Rattle.std.proofs.lemmas.List.Sums.{sum_by-cons}
use Rattle.rulebook.specs.declared.entries.WatchEntry.{WatchEntry}
use Rattle.rulebook.specs.declared.entries.RowEntry.{RowEntry}
use Rattle.rulebook.specs.Tables.{Table, Laws}
use Rattle.session.specs.declared.trail.TrailRecord.{TrailRecord}
use Rattle.session.specs.SessionLaw.{entries_below, entries, sum_active}
use Rattle.session.proofs.Seeks.{Bare, First}
use Rattle.session.proofs.ActiveSums.{total, sum_active-beyond, sum_active-most}

module _ (entry : ℕ → Option WatchEntry) where
  entries-none : (n : ℕ) → entry n ≡ None → entries_below entry (suc n) ≡ entries_below entry n
  entries-none n h = let z : ◌≡◌ {A = ℕ} (cond (is_some (entry n)) 1 0) 0 = ap (λ o. cond {A = ℕ} (is_some o) 1 0) h in omega arith

  entries-some : (n : ℕ) (e : WatchEntry) → entry n ≡ Some e → entries_below entry (suc n) ≡ entries_below entry n + 1
  entries-some n e h = let z : ◌≡◌ {A = ℕ} (cond (is_some (entry n)) 1 0) 1 = ap (λ o. cond {A = ℕ} (is_some o) 1 0) h in omega arith

  pub entries-bare : (r n : ℕ) → r ≤ n → Bare entry r n → entries_below entry n ≡ entries_below entry r
  entries-bare r zero h b = let z : 0 ≡ r = omega arith in ap (entries_below entry) z
  entries-bare r (suc n) h b = ⊎_elim
      (λ (z : r < suc n). entries-none n (b n (omega arith) (omega arith)) ∙ entries-bare r n (omega arith) (λ k lo hi. b k lo (omega arith)))
      (λ (z : suc n ≤ r). let y : suc n ≡ r = omega arith in ap (entries_below entry) y)
      (cases_lt r (suc n))

  pub entries_mono : (r n : ℕ) → r ≤ n → entries_below entry r ≤ entries_below entry n
  entries_mono r zero h = let z : r ≡ 0 = omega arith in let y = ap (entries_below entry) z in omega arith
  entries_mono r (suc n) h = ⊎_elim
      (λ (z : r < suc n). omega (arith, entries_mono r n (omega arith)))
      (λ (z : suc n ≤ r). let x : r ≡ suc n = omega arith in let y = ap (entries_below entry) x in omega arith)
      (cases_lt r (suc n))

  -- up to and with the first entry from a row on there is one more
  pub entries-first : (r n : ℕ) (f : RowEntry) → First entry r n f → entries_below entry (f.row + 1) ≡ entries_below entry r + 1
  entries-first r n f h =
      ap (entries_below entry) (add-one f.row)
      ∙ entries-some f.row f.entry h.here
      ∙ ap (λ k. k + 1) (entries-bare r f.row h.from h.bare)

  pub entries-first_less : (r n : ℕ) (f : RowEntry) → First entry r n f → entries_below entry r < entries_below entry n
  entries-first_less r n f h = omega (arith, entries-first r n f h, entries_mono (f.row + 1) n (omega (arith, h.under)))

  pub entries_most : (r : ℕ) → entries_below entry r ≤ r
  entries_most zero = omega arith
  entries_most (suc r) = omega (arith, entries_most r, one (is_some (entry r)))
    where
      one : (b : Bool) → cond b 1 0 ≤ 1
      one true = omega arith
      one false = omega arith

-- the watch entries of a trail before place p and row r
abbrev pub entries_before : Table → List TrailRecord → ℕ → ℕ → ℕ
entries_before table [] p r = 0
entries_before table (x ∷ t) zero r = entries_below (table.entry x.item) r
entries_before table (x ∷ t) (suc p) r = entries table x.item + entries_before table t p r

module _ (table : Table) where
  total-cons : (x : TrailRecord) (t : List TrailRecord) → total (entries table) (x ∷ t) ≡ entries table x.item + total (entries table) t
  total-cons x t = sum_by-cons (λ y. entries table y.item) x t

  pub before-start : (t : List TrailRecord) → entries_before table t 0 0 ≡ 0
  before-start [] = refl
  before-start (x ∷ t) = refl

  -- the worked place moves on over bare rows
  pub before-moved : (t : List TrailRecord) (p r : ℕ) (x : TrailRecord) (xs : List TrailRecord) → drop p t ≡ x ∷ xs → r ≤ table.rows →
      Bare (table.entry x.item) r table.rows → entries_before table t (suc p) 0 ≡ entries_before table t p r
  before-moved [] zero r x xs d le b = cc
  before-moved [] (suc p) r x xs d le b = cc
  before-moved (y ∷ t) zero r x xs d le b =
      let z : x ≡ y = cc in
      let h = entries-bare (table.entry y.item) r table.rows le (subst (λ u. Bare (table.entry u.item) r table.rows) z b) in
      omega (arith, before-start t)
  before-moved (y ∷ t) (suc p) r x xs d le b = ap (λ k. entries table y.item + k) (before-moved t p r x xs d le b)

  -- or past an entry
  pub before-taken : (t : List TrailRecord) (p r : ℕ) (x : TrailRecord) (xs : List TrailRecord) (f : RowEntry) → drop p t ≡ x ∷ xs →
      First (table.entry x.item) r table.rows f → entries_before table t p (f.row + 1) ≡ entries_before table t p r + 1
  before-taken [] zero r x xs f d h = absurd (cc)
  before-taken [] (suc p) r x xs f d h = absurd (cc)
  before-taken (y ∷ t) zero r x xs f d h =
      let z : x ≡ y = cc in
      entries-first (table.entry y.item) r table.rows f (subst (λ u. First (table.entry u.item) r table.rows f) z h)
  before-taken (y ∷ t) (suc p) r x xs f d h = omega (arith, before-taken t p r x xs f d h)

  -- before an entry that is due there are fewer than in all
  pub before_less : (t : List TrailRecord) (p r : ℕ) (x : TrailRecord) (xs : List TrailRecord) (f : RowEntry) → drop p t ≡ x ∷ xs →
      First (table.entry x.item) r table.rows f → entries_before table t p r < total (entries table) t
  before_less [] zero r x xs f d h = absurd (cc)
  before_less [] (suc p) r x xs f d h = absurd (cc)
  before_less (y ∷ t) zero r x xs f d h =
      let z : x ≡ y = cc in
      let l = entries-first_less (table.entry y.item) r table.rows f (subst (λ u. First (table.entry u.item) r table.rows f) z h) in
      omega (arith, total-cons y t)
  before_less (y ∷ t) (suc p) r x xs f d h = omega (arith, before_less t p r x xs f d h, total-cons y t)

  -- past the trail there are all
  pub before_all : (t : List TrailRecord) (p r : ℕ) → drop p t ≡ [] → entries_before table t p r ≡ total (entries table) t
  before_all [] p r d = refl
  before_all (x ∷ t) zero r d = absurd (cc)
  before_all (x ∷ t) (suc p) r d = ap (λ k. entries table x.item + k) (before_all t p r d) ∙ sym (total-cons x t)

  pub before_most : (t : List TrailRecord) (p r : ℕ) → r ≤ table.rows → entries_before table t p r ≤ total (entries table) t
  before_most [] p r h = omega arith
  before_most (x ∷ t) zero r h = omega (arith, entries_mono (table.entry x.item) r table.rows h, total-cons x t)
  before_most (x ∷ t) (suc p) r h = omega (arith, before_most t p r h, total-cons x t)

  -- a record that joins the trail is not before the worked place
  pub before-push : (t : List TrailRecord) (p r : ℕ) (x : TrailRecord) → p ≤ length t → (drop p t ≡ [] → r ≡ 0) → entries_before table (t ++ x ∷ []) p r ≡ entries_before table t p r
  before-push [] zero r x le z = ap (entries_below (table.entry x.item)) (z refl)
  before-push [] (suc p) r x le z = absurd (omega arith)
  before-push (y ∷ t) zero r x le z = refl
  before-push (y ∷ t) (suc p) r x le z = ap (λ k. entries table y.item + k) (before-push t p r x (omega arith) z)

  -- the watch entries of the active items below any count are at most those that a table can have
  pub watched_most : Laws table → (t : List TrailRecord) (n : ℕ) → sum_active (entries table) t n ≤ table.items * table.rows
  watched_most laws t n = ⊎_elim
      (λ (z : n < table.items). omega (arith, most n, mul-le-mul_right {m = n} {n = table.items} table.rows (omega arith)))
      (λ (z : table.items ≤ n). omega (arith, most table.items, sum_active-beyond (entries table) t table.items n z outside))
      (cases_lt n table.items)
    where
      most : (m : ℕ) → sum_active (entries table) t m ≤ m * table.rows
      most m = sum_active-most (entries table) table.rows (λ i. entries_most (table.entry i) table.rows) t m

      none : (i r : ℕ) → table.items ≤ i → (o : Option WatchEntry) → table.entry i r ≡ o → o ≡ None
      none i r le None h = refl
      none i r le (Some e) h = absurd (omega (arith, (laws.within i r e h).0))

      outside : (i : ℕ) → table.items ≤ i → entries table i ≡ 0
      outside i le = entries-bare (table.entry i) 0 table.rows (omega arith) (λ k lo hi. none i k le (table.entry i k) refl)
