-- The law of sessions, for lists of calls.
use Rattle.std.specs.Prelude.{◌≡◌, ℕ, List, ◌++◌, length, take, drop, Bool, Ok, Err, Result, if◌then◌else◌, nat_le}
use Rattle.rulebook.specs.Tables.{Table}
use Rattle.session.specs.declared.calls.Answer.{Answer}
use Rattle.session.specs.declared.calls.SessionFault.{SessionFault}
use Rattle.session.specs.declared.calls.SessionFault.TheVariants as fault
use Rattle.session.specs.Histories.{Call, answers_from, calls_leave, history, Chooser, first_calls}
use Rattle.session.specs.SessionLaw.{SessionLaw}
use Rattle.session.specs.States.{State, empty}

-- After some calls on a new session with n items, by one rulebook, which means the table t:
pub record Law (t : Table) (n : ℕ) (calls : List Call) : Type 0 where
  -- after the first k of them, for every k, and so after each of them and after all,
  pub each : (k : ℕ) → SessionLaw t n (take k calls)
  -- and after calls that are each chosen in view of the earlier answers
  pub first_calls : (choose : Chooser) (k : ℕ) → SessionLaw t n (first_calls t n choose k)

-- whether there is a place for the answer of each call
abbrev pub have_places : List Call → List Answer → Bool
have_places calls places = nat_le (length calls) (length places)

-- A list of calls: it is refused if there are too few places for the answers
abbrev pub run_calls_answer : List Call → List Answer → Result (Unit {0}) SessionFault
run_calls_answer calls places = if have_places calls places then Ok tt else Err fault.Memory

-- what it leaves of the state,
abbrev pub run_calls_leaves : State → Table → List Call → List Answer → State
run_calls_leaves s t calls places = if have_places calls places then calls_leave s t calls else s

-- and what the places for the answers then hold
abbrev pub run_calls_answers : State → Table → List Call → List Answer → List Answer
run_calls_answers s t calls places =
    if have_places calls places then answers_from s t calls ++ drop (length calls) places else places

-- After some calls on a new session came these: the state that they leave is that of the history of all of them, what they
-- answer follows the answers from before, and the law holds of all of them.
pub record GoesOn (t : Table) (n : ℕ) (before calls : List Call) (left : State) (answers : List Answer) : Type 0 where
  pub state : left ≡ (history t n (before ++ calls)).state
  pub all_answers : answers_from (empty n) t before ++ take (length calls) answers ≡ answers_from (empty n) t (before ++ calls)
  pub law : Law t n (before ++ calls)
