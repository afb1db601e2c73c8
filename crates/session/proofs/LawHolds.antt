-- The law of sessions: soundness, completeness and the step sum.
use Rattle.std.proofs.Common.{◌≡◌, ℕ, zero, suc, ◌+◌, ◌*◌, ◌<◌, ◌≤◌, Bool, true, false, cond, List, [], ◌∷◌, ◌++◌, take, Some, Ok, Err, sym, refl, ap, ◌∙◌, subst, inl, arith, add-one, append-nil, eqb-true}
use Rattle.std.specs.Prelude.{IsTrue}
use Rattle.std.specs.List.{slice_get}
use Rattle.std.proofs.lemmas.List.{take-append-drop}
use Rattle.std.proofs.lemmas.Option.{IfSome_then, none-some, same_Some, get_or_from_slice_get, slice_get_within}
use Rattle.rulebook.specs.Tables.{Table, Laws}
use Rattle.session.specs.declared.calls.Answer.{Answer}
use Rattle.session.specs.declared.calls.Answer.TheVariants as answer
use Rattle.session.specs.declared.calls.SessionFault.TheVariants as fault
use Rattle.session.specs.Causes.{Because}
use Rattle.session.specs.Trails.{active, no_record}
use Rattle.session.specs.States.{State, empty, settle_run, Run, outcome_of, fits}
use Rattle.session.specs.Least.{Closed}
use Rattle.session.specs.Histories.{Call, request, settle, active as active_call, reason, call_answer, call_leaves, calls_leave, answers_from, History, history}
use Rattle.session.specs.SessionLaw.{entries, sum_active, watch_entries, Counted, SessionLaw}
use Rattle.session.proofs.Seeks.{seek-some}
use Rattle.session.proofs.TrailFacts.{Active}
use Rattle.session.proofs.ActiveSums.{total}
use Rattle.session.proofs.EntryCounts.{before_all, before_less, before_most, watched_most}
use Rattle.session.proofs.Derivations.{derived-least}
use Rattle.session.proofs.Pasts.{after_settle, called, history-push}
use Rattle.session.proofs.SettleKeeps.{Ended}
use Rattle.session.proofs.Invariant.{Invariant}
use Rattle.session.proofs.Kept.{Kept, settled-ends, history-kept}
use Rattle.session.proofs.Reasons.{history-reasons}

-- while a session is settled, its active items are closed by the rules
pub settled-closed : (table : Table) (n : ℕ) (h : History) → Kept table n h → IsTrue h.settled → Closed table (Active h.state)
settled-closed table n h kept z i r e q a b =
    kept.invariant.core.fired i r e q (inl (all i a)) (IfSome_then e.partner b (λ j m. inl (all j m)))
  where
    all : (j : ℕ) → Active h.state j → IsTrue (active (take h.state.position h.state.trail) j)
    all j m =
        let p = h.state.position in
        let t = h.state.trail in
        let e : take p t ≡ t = sym (append-nil (take p t)) ∙ ap (λ l. take p t ++ l) (sym (kept.rests z)) ∙ take-append-drop p t in
        subst (λ l. IsTrue (active l j)) (sym e) m

-- the step sum where no trail item is left, and where an entry is due
abbrev Stepped : Table → History → Bool → Type 0
Stepped table h true = h.steps < watch_entries table h.state
Stepped table h false = h.steps ≡ watch_entries table h.state

ended-stepped : (table : Table) (asked : List ℕ) (h : History) (pending : Bool) → Invariant table asked h.steps h.state → table.items ≡ h.state.items →
    Ended table h.state pending → Stepped table h pending
ended-stepped table asked h pending v same = go pending
  where
    watched : watch_entries table h.state ≡ total (entries table) h.state.trail
    watched = ap (sum_active (entries table) h.state.trail) same ∙ v.core.whole (entries table)

    go : (b : Bool) → Ended table h.state b → Stepped table h b
    go false e = v.core.spent ∙ before_all table h.state.trail h.state.position h.state.row e ∙ sym watched
    go true (f, (x, xs, d, q)) =
        omega (arith, v.core.spent, watched, before_less table h.state.trail h.state.position h.state.row x xs f d (seek-some table x.item h.state.row f q))

-- the call that gave an answer, and the calls before it
answer-call : (table : Table) (s : State) (calls : List Call) (k : ℕ) (a : Answer) → slice_get (answers_from s table calls) k ≡ Some a →
    (front : List Call) × (c : Call) × (take (suc k) calls ≡ front ++ c ∷ []) × (call_answer (calls_leave s table front) table c ≡ a)
answer-call table s [] k a e = absurd (none-some a e)
answer-call table s (c ∷ cs) zero a e = ([], c, refl, same_Some _ a e)
answer-call table s (c ∷ cs) (suc k) a e =
    let more = answer-call table (call_leaves s table c) cs k a e in
    (c ∷ more.0, more.1, ap (λ l. c ∷ l) more.2, more.3)

module _ (table : Table) (laws : Laws table) where
  settle-stepped : (n : ℕ) (h : History) (b : ℕ) → Kept table n h → fits h.state table ≡ true →
      Stepped table (after_settle h b (settle_run h.state table b)) (settle_run h.state table b).pending
  settle-stepped n h b kept f =
      let r = settle_run h.state table b in
      let ends = settled-ends table laws n h b kept (eqb-true table.items h.state.items f) in
      ended-stepped table h.accepted (after_settle h b r) r.pending ends.0.0 ends.0.1 ends.1

  -- after a call its answer tells of the step sum
  called-counted : (n : ℕ) (h : History) (c : Call) → Kept table n h → Counted table (called table h c) (call_answer h.state table c)
  called-counted n h (request is) kept = tt
  called-counted n h (active_call i) kept = tt
  called-counted n h (reason i) kept = tt
  called-counted n h (settle b) kept = go (fits h.state table) (settle_run h.state table b) (settle-stepped n h b kept)
    where
      ran : (r : Run) (p : Bool) → let q : Run = record { state = r.state; steps = r.steps; pending = p } in
          Stepped table (after_settle h b q) p → Counted table (after_settle h b q) (answer.Settle (Ok (outcome_of q)))
      ran r true z = z
      ran r false z = z

      go : (f : Bool) (r : Run) → (f ≡ true → Stepped table (after_settle h b r) r.pending) →
          Counted table (cond f (after_settle h b r) h) (answer.Settle (cond f (Ok (outcome_of r)) (Err fault.Item)))
      go true r z = ran r r.pending (z refl)
      go false r z = tt

  answers-counted : (n : ℕ) (calls : List Call) (k : ℕ) (a : Answer) → slice_get (answers_from (empty n) table calls) k ≡ Some a → Counted table (history table n (take (k + 1) calls)) a
  answers-counted n calls k a e =
      let (front, c, begins, told) = answer-call table (empty n) calls k a e in
      let same : history table n (take (k + 1) calls) ≡ called table (history table n front) c =
      ap (λ j. history table n (take j calls)) (add-one k) ∙ ap (history table n) begins ∙ history-push table n front c in
      subst (Counted table (history table n (take (k + 1) calls))) told
      (subst (λ h. Counted table h (call_answer (calls_leave (empty n) table front) table c)) (sym same)
      (called-counted n (history table n front) c (history-kept table laws n front)))

  -- the step sum is at most the number of entries that the table has room for
  steps-most : (n : ℕ) (h : History) → Kept table n h → h.steps ≤ table.items * table.rows
  steps-most n h kept =
      let c = kept.invariant.core in
      let s = h.state in
      omega (arith, c.spent, c.whole (entries table), before_most table s.trail s.position s.row c.low, watched_most table laws s.trail s.items)

pub session-law : (t : Table) → Laws t → (n : ℕ) (calls : List Call) → SessionLaw t n calls
session-law t laws n calls =
    let h = history t n calls in
    let kept = history-kept t laws n calls in
    record {
      sound = λ i a. derived-least t h.accepted i (kept.invariant.core.sound i a);
      complete = λ z i least. least (active h.state.trail) kept.invariant.held (settled-closed t n h kept z);
      counted = answers-counted t laws n calls;
      reasons = λ k r e. subst (Because t h.state.trail h.accepted k) (get_or_from_slice_get h.state.trail k r no_record e) (history-reasons t n calls k (slice_get_within h.state.trail k r e));
      bounded = steps-most t laws n h kept;
    }
