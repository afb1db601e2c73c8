-- Histories call by call: how each call changes one.
use Rattle.std.proofs.Common.{◌≡◌, ℕ, ◌+◌, Bool, true, false, cond, not, List, [], ◌∷◌, ◌++◌, Ok, Err, sym, ap, ◌∙◌, arith, append_assoc, append-nil}
use Rattle.std.specs.List.{fold, zip}
use Rattle.std.proofs.lemmas.List.Sums.{fold_push}
use Rattle.rulebook.specs.Tables.{Table}
use Rattle.session.specs.declared.calls.Answer.{Answer}
use Rattle.session.specs.declared.calls.Answer.TheVariants as answer
use Rattle.session.specs.declared.calls.Outcome.{Outcome}
use Rattle.session.specs.declared.calls.Outcome.TheVariants.{Settled, Pending}
use Rattle.session.specs.declared.calls.SessionFault.TheVariants as fault
use Rattle.session.specs.States.{State, empty, request_all, all_below, settle_run, Run, outcome_of, fits}
use Rattle.session.specs.Histories.{Call, request, settle, active, reason, call_answer, call_leaves, calls_leave, answers_from, accepted_in_call, accepted_items, steps_in_call, settled_after_call, History, history}

abbrev pub begun : ℕ → History
begun n = record { state = empty n; accepted = []; steps = 0; settled = false }

-- the steps of an answer
abbrev pub reported : ℕ → Outcome → ℕ
reported b (Settled n) = n
reported b Pending = b

abbrev pub after_request : History → List ℕ → History
after_request h is = record { state = request_all h.state is; accepted = h.accepted ++ is; steps = h.steps; settled = false }

abbrev pub after_settle : History → ℕ → Run → History
after_settle h b r = record { state = r.state; accepted = h.accepted; steps = h.steps + reported b (outcome_of r); settled = not r.pending }

-- a refused call and a question leave all as it was
abbrev pub called : Table → History → Call → History
called t h (request is) = cond (all_below h.state.items is) (after_request h is) h
called t h (settle b) = cond (fits h.state t) (after_settle h b (settle_run h.state t b)) h
called t h (active i) = h
called t h (reason i) = h

-- what a history is after one call more, which answered so and left this state
abbrev told_after : History → Call → Answer → State → History
told_after h c a s = record { state = s; accepted = h.accepted ++ accepted_in_call c a; steps = h.steps + steps_in_call c a; settled = settled_after_call h.settled a }

module _ (t : Table) where
  same : (h : History) → h ≡ told_after h (active 0) (answer.Active (Err fault.Item)) h.state
  same h =
      let z : h.steps ≡ h.steps + 0 = omega arith in
      λ i. record { state = h.state; accepted = sym (append-nil h.accepted) i; steps = z i; settled = h.settled }

  -- so the answer tells how a call changes a history
  called-told : (h : History) (c : Call) → called t h c ≡ told_after h c (call_answer h.state t c) (call_leaves h.state t c)
  called-told h (request is) = go (all_below h.state.items is)
    where
      go : (b : Bool) → cond b (after_request h is) h ≡ told_after h (request is) (answer.Request (cond b (Ok tt) (Err fault.Item))) (cond b (request_all h.state is) h.state)
      go true = let z : h.steps ≡ h.steps + 0 = omega arith in λ i. record { state = request_all h.state is; accepted = h.accepted ++ is; steps = z i; settled = false }
      go false = same h
  called-told h (settle b) = go (fits h.state t) (settle_run h.state t b)
    where
      ran : (r : Run) (p : Bool) → let q : Run = record { state = r.state; steps = r.steps; pending = p } in
          after_settle h b q ≡ told_after h (settle b) (answer.Settle (Ok (outcome_of q))) r.state
      ran r true = λ i. record { state = r.state; accepted = sym (append-nil h.accepted) i; steps = h.steps + b; settled = false }
      ran r false = λ i. record { state = r.state; accepted = sym (append-nil h.accepted) i; steps = h.steps + r.steps; settled = true }

      go : (f : Bool) (r : Run) → cond f (after_settle h b r) h ≡ told_after h (settle b) (answer.Settle (cond f (Ok (outcome_of r)) (Err fault.Item))) (cond f r.state h.state)
      go true r = ran r r.pending
      go false r = same h
  called-told h (active i) = same h
  called-told h (reason i) = same h

  -- after some calls
  past-told : (h : History) (calls : List Call) → let answers = answers_from h.state t calls in
      fold (called t) h calls ≡ record {
        state = calls_leave h.state t calls;
        accepted = h.accepted ++ accepted_items calls answers;
        steps = fold (λ x m. x + steps_in_call m.0 m.1) h.steps (zip calls answers);
        settled = fold settled_after_call h.settled answers;
      }
  past-told h [] = λ i. record { state = h.state; accepted = sym (append-nil h.accepted) i; steps = h.steps; settled = h.settled }
  past-told h (c ∷ cs) =
      let a = call_answer h.state t c in
      let s = call_leaves h.state t c in
      let answers = answers_from s t cs in
      let next = told_after h c a s in
      ap (λ g. fold (called t) g cs) (called-told h c) ∙ past-told next cs
      ∙ (λ i. record {
        state = calls_leave s t cs;
        accepted = append_assoc h.accepted (accepted_in_call c a) (accepted_items cs answers) i;
        steps = fold (λ x m. x + steps_in_call m.0 m.1) next.steps (zip cs answers);
        settled = fold settled_after_call next.settled answers;
      })

  pub past-history : (n : ℕ) (calls : List Call) → fold (called t) (begun n) calls ≡ history t n calls
  past-history n calls = past-told (begun n) calls

  -- after one call more
  pub history-push : (n : ℕ) (calls : List Call) (c : Call) → history t n (calls ++ c ∷ []) ≡ called t (history t n calls) c
  history-push n calls c =
      sym (past-history n (calls ++ c ∷ [])) ∙ fold_push (called t) (begun n) calls c ∙ ap (λ h. called t h c) (past-history n calls)
