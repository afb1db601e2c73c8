-- The calls made on a new session by one rulebook, and what follows from them.
use Rattle.std.specs.Prelude.{ℕ, zero, suc, Bool, true, false, List, [], ◌∷◌, ◌++◌, Ok, fold}
use Rattle.std.specs.List.{zip, flat_map, sum_by}
use Rattle.rulebook.specs.Tables.{Table}
use Rattle.session.specs.declared.calls.Call as code
use Rattle.session.specs.declared.calls.Call.TheVariants as variant
use Rattle.session.specs.declared.calls.Outcome.TheVariants.{Settled, Pending}
use Rattle.session.specs.declared.calls.Answer.{Answer}
use Rattle.session.specs.declared.calls.Answer.TheVariants as answer
use Rattle.session.specs.States.{State, empty, request_answer, request_leaves, settle_answer, settle_leaves, active_answer, reason_answer}

-- a call, with its items, its budget or its item
pub data Call : Type 0 where
  request : List ℕ → Call
  settle : ℕ → Call
  active : ℕ → Call
  reason : ℕ → Call

-- a call of the code
abbrev pub call_view : code.Call → Call
call_view (variant.Request is) = request is.now
call_view (variant.Settle b) = settle b
call_view (variant.Active i) = active i
call_view (variant.Reason i) = reason i

-- what a call answers in a state, and what it leaves
abbrev pub call_answer : State → Table → Call → Answer
call_answer s t (request is) = answer.Request (request_answer s is)
call_answer s t (settle b) = answer.Settle (settle_answer s t b)
call_answer s t (active i) = answer.Active (active_answer s i)
call_answer s t (reason i) = answer.Reason (reason_answer s i)

abbrev pub call_leaves : State → Table → Call → State
call_leaves s t (request is) = request_leaves s is
call_leaves s t (settle b) = settle_leaves s t b
call_leaves s t (active i) = s
call_leaves s t (reason i) = s

-- what some calls leave, and what each of them answers, from a state on
abbrev pub calls_leave : State → Table → List Call → State
calls_leave s t calls = fold (λ u c. call_leaves u t c) s calls

abbrev pub answers_from : State → Table → List Call → List Answer
answers_from s t [] = []
answers_from s t (c ∷ cs) = call_answer s t c ∷ answers_from (call_leaves s t c) t cs

-- What calls and their answers tell:

-- the items of the requests that were accepted;
abbrev pub accepted_in_call : Call → Answer → List ℕ
accepted_in_call (request is) (answer.Request (Ok u)) = is
accepted_in_call _ _ = []

abbrev pub accepted_items : List Call → List Answer → List ℕ
accepted_items calls answers = flat_map (λ m. accepted_in_call m.0 m.1) (zip calls answers)

-- the sum of the steps that settle reported: "pending" reports the budget;
abbrev pub steps_in_call : Call → Answer → ℕ
steps_in_call (settle b) (answer.Settle (Ok (Settled n))) = n
steps_in_call (settle b) (answer.Settle (Ok Pending)) = b
steps_in_call _ _ = 0

abbrev pub step_sum : List Call → List Answer → ℕ
step_sum calls answers = sum_by (λ m. steps_in_call m.0 m.1) (zip calls answers)

-- and whether a session is settled: from an answer "nothing pending" until an accepted request, or an answer "pending"
abbrev pub settled_after_call : Bool → Answer → Bool
settled_after_call before (answer.Settle (Ok (Settled n))) = true
settled_after_call before (answer.Settle (Ok Pending)) = false
settled_after_call before (answer.Request (Ok u)) = false
settled_after_call before _ = before

abbrev pub settled_after : List Answer → Bool
settled_after answers = fold settled_after_call false answers

-- what some calls leave, and what they and their answers tell
pub record History : Type 0 where
  pub state : State
  pub accepted : List ℕ
  pub steps : ℕ
  pub settled : Bool

-- after some calls on a new session with n items
abbrev pub history : Table → ℕ → List Call → History
history t n calls =
    let answers = answers_from (empty n) t calls in
    record { state = calls_leave (empty n) t calls; accepted = accepted_items calls answers; steps = step_sum calls answers; settled = settled_after answers }

-- A caller that chooses each call in view of the earlier answers, the newest last.
abbrev pub Chooser : Type 0
Chooser = List Answer → Call

-- the first k calls that it makes
abbrev pub first_calls : Table → ℕ → Chooser → ℕ → List Call
first_calls t n choose zero = []
first_calls t n choose (suc k) = first_calls t n choose k ++ choose (answers_from (empty n) t (first_calls t n choose k)) ∷ []
