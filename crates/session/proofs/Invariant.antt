-- The invariant of a session's state by one rulebook, and the three changes that keep its core.
use Rattle.std.proofs.Common.{◌≡◌, ℕ, ◌+◌, ◌<◌, ◌≤◌, false, ◌⊎◌, List, [], ◌∷◌, ◌++◌, length, take, drop, Some, None, Option, sym, refl, ap, ◌∙◌, subst, inl, inr, ⊎_elim, arith, add-one, IfSome}
use Rattle.std.specs.Prelude.{IsTrue, Contains}
use Rattle.std.proofs.lemmas.Bool.{cases_lt}
use Rattle.std.proofs.lemmas.List.{length-drop, length-append, take-append-le, drop-append-le}
use Rattle.std.proofs.lemmas.Option.{IfSome_then}
use Rattle.rulebook.specs.declared.entries.WatchEntry.{WatchEntry}
use Rattle.rulebook.specs.declared.entries.RowEntry.{RowEntry}
use Rattle.rulebook.specs.Tables.{Table, Laws, seek}
use Rattle.session.specs.declared.trail.TrailRecord.{TrailRecord}
use Rattle.session.specs.Trails.{active}
use Rattle.session.specs.States.{State, with_trail, with_position, move_on}
use Rattle.session.specs.SessionLaw.{sum_active}
use Rattle.session.proofs.Seeks.{Bare, First, seek-none, seek-some}
use Rattle.session.proofs.TrailFacts.{Active, At, Head, active-left, active-cases, active-one, take_next, at-active, at-inside}
use Rattle.session.proofs.ActiveSums.{total, total-push, total-length, sum_active-push, sum_active-most, sum_active_less}
use Rattle.session.proofs.EntryCounts.{entries_before, before-moved, before-taken, before-push}
use Rattle.session.proofs.Derivations.{Derived}
use Rattle.session.proofs.Firing.{Worked, Fired, fires-all}

-- with some items asked for, and after so many steps; while a request is made, not all of these are active yet
pub record Core (table : Table) (asked : List ℕ) (steps : ℕ) (s : State) : Type 0 where
  -- the worked place is on the trail or just past it, and there at row 0
  pub inside : s.position ≤ length s.trail
  pub fresh : drop s.position s.trail ≡ [] → s.row ≡ 0
  pub low : s.row ≤ table.rows
  -- active items are derived, and rules fire once they are worked from each premise
  pub sound : (i : ℕ) → Active s i → Derived table asked i
  pub fired : Fired table s
  -- the steps are the watch entries before the worked place
  pub spent : steps ≡ entries_before table s.trail s.position s.row
  -- no item is on the trail twice or beyond the session's count: sums over the active items are sums along the trail
  pub whole : (w : ℕ → ℕ) → sum_active w s.trail s.items ≡ total w s.trail

pub record Invariant (table : Table) (asked : List ℕ) (steps : ℕ) (s : State) : Type 0 where
  pub core : Core table asked steps s
  -- the items asked for are active
  pub held : (i : ℕ) → Contains asked i → Active s i

no_entry : (o : Option WatchEntry) (e : WatchEntry) → o ≡ None → o ≡ Some e → ⊥
no_entry o e p q = cc

no_head : (t : List TrailRecord) (x : TrailRecord) (xs : List TrailRecord) → t ≡ [] → t ≡ x ∷ xs → ⊥
no_head t x xs p q = cc

head_from : (t : List TrailRecord) (x : TrailRecord) (xs : List TrailRecord) → t ≡ x ∷ xs → (i : ℕ) → Head t i → x.item ≡ i
head_from t x xs d i h = subst (λ l. Head l i) d h

head_to : (t : List TrailRecord) (x : TrailRecord) (xs : List TrailRecord) → t ≡ x ∷ xs → (i : ℕ) → x.item ≡ i → Head t i
head_to t x xs d i h = subst (λ l. Head l i) (sym d) h

module _ (table : Table) (laws : Laws table) (asked : List ℕ) (k : ℕ) (s : State) where
  -- the worked place moves to the next trail item
  pub moved-core : (x : TrailRecord) (xs : List TrailRecord) → At s x xs → seek table x.item s.row ≡ None → Core table asked k s → Core table asked k (move_on s)
  moved-core x xs d e c = record {
    inside = let h = at-inside s x xs d in omega arith;
    fresh = λ _. refl;
    low = omega arith;
    sound = c.sound;
    fired = fires-all table laws s (move_on s) x.item (λ r. s.row ≤ r) (λ i h. h) news (at-active s x xs d)
        (λ r y q f a. absurd (no_entry _ y (bare r f (laws.within x.item r y q).1) q))
        c.fired;
    spent = c.spent ∙ sym (ap (λ p. entries_before table s.trail p 0) (add-one s.position) ∙ before-moved table s.trail s.position s.row x xs d c.low bare);
    whole = c.whole;
  }
    where
      bare : Bare (table.entry x.item) s.row table.rows
      bare = seek-none table x.item s.row e

      split : (i : ℕ) → IsTrue (active (take (s.position + 1) s.trail) i) → IsTrue (active (take s.position s.trail) i) ⊎ (x.item ≡ i)
      split i h = ⊎_elim (λ v. inl v) (λ v. inr (active-one x i v))
          (active-cases (take s.position s.trail) (x ∷ []) i
          (subst (λ l. IsTrue (active l i)) (ap (λ j. take j s.trail) (add-one s.position) ∙ take_next s.position s.trail x xs d) h))

      news : (r i : ℕ) → Worked (move_on s) r i → Worked s r i ⊎ ((x.item ≡ i) × (s.row ≤ r))
      news r i (inr h) = absurd (omega (arith, h.1))
      news r i (inl h) = ⊎_elim
          (λ v. inl (inl v))
          (λ v. ⊎_elim (λ (z : r < s.row). inl (inr (head_to _ x xs d i v, z))) (λ (z : s.row ≤ r). inr (v, z)) (cases_lt r s.row))
          (split i h)

  -- the worked place moves past an entry whose rule fires
  pub row-core : (x : TrailRecord) (xs : List TrailRecord) (f : RowEntry) → At s x xs → seek table x.item s.row ≡ Some f →
      (IfSome f.entry.partner (Active s) → Active s f.entry.conclusion) → Core table asked k s → Core table asked (k + 1) (with_position s s.position (f.row + 1))
  row-core x xs f d e does c = record {
    inside = c.inside;
    fresh = λ z. absurd (no_head _ x xs z d);
    low = omega (arith, first.under);
    sound = c.sound;
    fired = fires-all table laws s (with_position s s.position (f.row + 1)) x.item (λ r. (s.row ≤ r) × (r < f.row + 1)) (λ i h. h) news (at-active s x xs d) fires c.fired;
    spent = ap (λ j. j + 1) c.spent ∙ sym (before-taken table s.trail s.position s.row x xs f d first);
    whole = c.whole;
  }
    where
      first : First (table.entry x.item) s.row table.rows f
      first = seek-some table x.item s.row f e

      news : (r i : ℕ) → Worked (with_position s s.position (f.row + 1)) r i → Worked s r i ⊎ ((x.item ≡ i) × ((s.row ≤ r) × (r < f.row + 1)))
      news r i (inl h) = inl (inl h)
      news r i (inr h) = ⊎_elim (λ (z : r < s.row). inl (inr (h.0, z))) (λ (z : s.row ≤ r). inr (head_from _ x xs d i h.0, (z, h.1))) (cases_lt r s.row)

      fires : (r : ℕ) (y : WatchEntry) → table.entry x.item r ≡ Some y → (s.row ≤ r) × (r < f.row + 1) → IfSome y.partner (Active s) → Active s y.conclusion
      fires r y q h a = ⊎_elim
          (λ (z : r < f.row). absurd (no_entry _ y (first.bare r h.0 z) q))
          (λ (z : f.row ≤ r).
          let same : f.row ≡ r = omega (arith, h.1) in
          let w : f.entry ≡ y = let o = first.here in let u = ap (table.entry x.item) same in cc in
          subst (λ (v : WatchEntry). IfSome v.partner (Active s) → Active s v.conclusion) w does a)
          (cases_lt r f.row)

  -- a derived item joins the trail
  pub push-core : (x : TrailRecord) → Derived table asked x.item → active s.trail x.item ≡ false → x.item < s.items → Core table asked k s → Core table asked k (with_trail s (s.trail ++ x ∷ []))
  push-core x dx off lt c = record {
    inside = omega (arith, length-append s.trail (x ∷ []), c.inside);
    fresh = λ z. absurd (let y = ap length z in omega (arith, y, length-drop s.position (s.trail ++ x ∷ []), length-append s.trail (x ∷ []), c.inside));
    low = c.low;
    sound = λ i h. ⊎_elim (c.sound i) (λ v. subst (Derived table asked) (active-one x i v) dx) (active-cases s.trail (x ∷ []) i h);
    fired = λ i r e q w a. active-left s.trail (x ∷ []) e.conclusion
        (c.fired i r e q (was r i w) (IfSome_then e.partner a (was r)));
    spent = c.spent ∙ sym (before-push table s.trail s.position s.row x c.inside c.fresh);
    whole = λ w. sum_active-push w s.trail x s.items lt off ∙ ap (λ j. j + w x.item) (c.whole w) ∙ sym (total-push w s.trail x);
  }
    where
      head : (t : List TrailRecord) (i r : ℕ) → (t ≡ [] → s.row ≡ 0) → Head (t ++ x ∷ []) i → r < s.row → Head t i
      head [] i r z h l = absurd (omega (arith, z refl))
      head (y ∷ t) i r z h l = h

      was : (r i : ℕ) → Worked (with_trail s (s.trail ++ x ∷ [])) r i → Worked s r i
      was r i (inl h) = inl (subst (λ l. IsTrue (active l i)) (take-append-le s.position s.trail (x ∷ []) c.inside) h)
      was r i (inr h) = inr (head _ i r c.fresh (subst (λ l. Head l i) (drop-append-le s.position s.trail (x ∷ []) c.inside) h.0) h.1, h.1)

-- The trail has no more records than the session has items, and fewer where an item is not active.
pub trail_most : (table : Table) (asked : List ℕ) (k : ℕ) (s : State) → Core table asked k s → length s.trail ≤ s.items
trail_most table asked k s c = omega (arith, total-length s.trail, c.whole (λ _. 1), sum_active-most (λ _. 1) 1 (λ _. omega arith) s.trail s.items)

pub trail_room : (table : Table) (asked : List ℕ) (k : ℕ) (s : State) (i : ℕ) → Core table asked k s → i < s.items → active s.trail i ≡ false → length s.trail < s.items
trail_room table asked k s i c lt off = omega (arith, total-length s.trail, c.whole (λ _. 1), sum_active_less s.trail s.items i lt off)
