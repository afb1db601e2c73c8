-- Rules that have fired: a rule fires once its row is worked from each of its premises.
use Rattle.std.proofs.Common.{◌≡◌, ℕ, ◌<◌, ◌⊎◌, take, drop, Some, None, Option, ap, ◌∙◌, subst, ⊎_elim, IfSome}
use Rattle.std.specs.Prelude.{IsTrue}
use Rattle.std.proofs.lemmas.List.{take-append-drop}
use Rattle.std.proofs.lemmas.Option.{IfSome_then}
use Rattle.rulebook.specs.declared.entries.WatchEntry.{WatchEntry}
use Rattle.rulebook.specs.Tables.{Table, Laws}
use Rattle.session.specs.Trails.{active}
use Rattle.session.specs.States.{State}
use Rattle.session.proofs.TrailFacts.{Active, Head, active-left, active-right, head-active}

-- row r of item i is worked: the item is before the worked place, or at it and the row is before the worked row
abbrev pub Worked : State → ℕ → ℕ → Type 0
Worked s r i = IsTrue (active (take s.position s.trail) i) ⊎ (Head (drop s.position s.trail) i × (r < s.row))

abbrev pub Fired : Table → State → Type 0
Fired table s = (i r : ℕ) (e : WatchEntry) → table.entry i r ≡ Some e → Worked s r i → IfSome e.partner (Worked s r) → Active s e.conclusion

pub worked-active : (s : State) (r i : ℕ) → Worked s r i → Active s i
worked-active s r i w =
    let t = s.trail in
    let p = s.position in
    subst (λ l. IsTrue (active l i)) (take-append-drop p t)
    (⊎_elim (active-left (take p t) (drop p t) i) (λ h. active-right (take p t) (drop p t) i (head-active (drop p t) i h.0)) w)

-- From state s to state t the rows that are newly worked are those of one item, Fresh ones, and their rules fire. Then
-- all rules that are worked in t have fired: a pair rule that was worked from its other premise is watched from this one.
module _ (table : Table) (laws : Laws table) (s t : State) (n : ℕ) (Fresh : ℕ → Type 0)
    (grows : (i : ℕ) → Active s i → Active t i)
    (news : (r i : ℕ) → Worked t r i → Worked s r i ⊎ ((n ≡ i) × Fresh r))
    (here : Active s n)
    (fires : (r : ℕ) (e : WatchEntry) → table.entry n r ≡ Some e → Fresh r → IfSome e.partner (Active s) → Active t e.conclusion)
    (fired : Fired table s) where
  was-active : (r i : ℕ) → Worked t r i → Active s i
  was-active r i w = ⊎_elim (worked-active s r i) (λ (z : (n ≡ i) × Fresh r). subst (Active s) z.0 here) (news r i w)

  fires-old : (i r : ℕ) (b : Option ℕ) (c : ℕ) → table.entry i r ≡ Some (record { partner = b; conclusion = c }) → Worked s r i → IfSome b (Worked t r) → Active t c
  fires-old i r None c q w a = grows c (fired i r _ q w tt)
  fires-old i r (Some b) c q w a = ⊎_elim
      (λ (v : Worked s r b). grows c (fired i r _ q w v))
      (λ (z : (n ≡ b) × Fresh r). fires r _ (ap (λ m. table.entry m r) z.0 ∙ laws.paired i b c r q) z.1 (worked-active s r i w))
      (news r b a)

  pub fires-all : Fired table t
  fires-all i r e q w a = ⊎_elim
      (λ (v : Worked s r i). fires-old i r e.partner e.conclusion q v a)
      (λ (z : (n ≡ i) × Fresh r). fires r e (ap (λ m. table.entry m r) z.0 ∙ q) z.1 (IfSome_then e.partner a (was-active r)))
      (news r i w)
