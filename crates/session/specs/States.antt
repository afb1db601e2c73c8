-- What a session holds, and what the calls make of it.
use Rattle.std.specs.Prelude.{ℕ, zero, suc, ◌+◌, Bool, true, false, if◌then◌else◌, not, ◌&&◌, List, [], ◌∷◌, ◌++◌, drop, Some, None, Ok, Err, Option, Result, ◌==◌, nat_le, nat_lt, slice_index_or}
use Rattle.std.specs.List.{list_all}
use Rattle.rulebook.specs.declared.entries.WatchEntry.{WatchEntry}
use Rattle.rulebook.specs.declared.entries.RowEntry.{RowEntry}
use Rattle.rulebook.specs.Tables.{Table, seek, max_items}
use Rattle.session.specs.declared.trail.TrailRecord.{TrailRecord}
use Rattle.session.specs.declared.calls.SessionFault.{SessionFault}
use Rattle.session.specs.declared.calls.SessionFault.TheVariants as fault
use Rattle.session.specs.declared.calls.Outcome.{Outcome}
use Rattle.session.specs.declared.calls.Outcome.TheVariants.{Settled, Pending}
use Rattle.session.specs.declared.calls.Reason.{Reason}
use Rattle.session.specs.Trails.{request_record, conclusion_record, active, find, grants, cause_of, no_record}

-- the item count, the trail, and the worked place: a trail number and a row
pub record State : Type 0 where
  pub items : ℕ
  pub trail : List TrailRecord
  pub position : ℕ
  pub row : ℕ

abbrev pub with_trail : State → List TrailRecord → State
with_trail s t = record { items = s.items; trail = t; position = s.position; row = s.row }

abbrev pub with_position : State → ℕ → ℕ → State
with_position s k r = record { items = s.items; trail = s.trail; position = k; row = r }

-- Opening: the check, and a new session; a refused case has no items

abbrev pub check_answer : ℕ → ℕ → ℕ → Result (Unit {0}) SessionFault
check_answer n places marks =
    if nat_le n places && nat_le n marks then (if nat_le n max_items then Ok tt else Err fault.Item) else Err fault.Memory

abbrev pub items_after : ℕ → Result (Unit {0}) SessionFault → ℕ
items_after n (Ok u) = n
items_after n (Err e) = 0

abbrev pub empty : ℕ → State
empty n = record { items = n; trail = []; position = 0; row = 0 }

abbrev pub open_session : ℕ → ℕ → ℕ → State
open_session n places marks = empty (items_after n (check_answer n places marks))

-- Request: those not yet active join the trail, in list order, without causes

abbrev pub request_one : State → ℕ → State
request_one s i = if active s.trail i then s else with_trail s (s.trail ++ request_record i ∷ [])

abbrev pub request_all : State → List ℕ → State
request_all s [] = s
request_all s (i ∷ is) = request_all (request_one s i) is

abbrev pub all_below : ℕ → List ℕ → Bool
all_below n is = list_all (λ i. nat_lt i n) is

abbrev pub request_answer : State → List ℕ → Result (Unit {0}) SessionFault
request_answer s is = if all_below s.items is then Ok tt else Err fault.Item

abbrev pub request_leaves : State → List ℕ → State
request_leaves s is = if all_below s.items is then request_all s is else s

-- Settle

-- the conclusion of an entry joins the trail if its premises are active and it is not
abbrev pub conclude : State → WatchEntry → State
conclude s e =
    if grants s.trail e.partner && not (active s.trail e.conclusion)
    then with_trail s (s.trail ++ conclusion_record e.conclusion s.position (cause_of s.trail e.partner) ∷ [])
    else s

-- an entry of the worked item is taken
abbrev pub take_entry : State → RowEntry → State
take_entry s f = with_position (conclude s f.entry) s.position (f.row + 1)

-- the item at the worked place, if a trail item is left
abbrev pub item_of : List TrailRecord → Option ℕ
item_of [] = None
item_of (r ∷ rs) = Some r.item

abbrev pub worked_item : State → Option ℕ
worked_item s = item_of (drop s.position s.trail)

-- the worked place moves to the next trail item, at row 0
abbrev pub move_on : State → State
move_on s = with_position s (s.position + 1) 0

-- what comes next: no trail item is left, or an entry is due
pub data Next : Type 0 where
  rest : State → Next
  due : State → RowEntry → Next

-- where seek answers none, the worked place moves on
abbrev pub or_next : Option RowEntry → State → Next → Next
or_next None s later = later
or_next (Some f) s later = due s f

abbrev pub next_among : State → Table → List TrailRecord → Next
next_among s t [] = rest s
next_among s t (r ∷ rs) = or_next (seek t r.item s.row) s (next_among (move_on s) t rs)

abbrev pub next : State → Table → Next
next s t = next_among s t (drop s.position s.trail)

-- how settling ends: the state, how many entries were taken, and whether one is due
pub record Run : Type 0 where
  pub state : State
  pub steps : ℕ
  pub pending : Bool

abbrev pub one_step_more : Run → Run
one_step_more r = record { state = r.state; steps = r.steps + 1; pending = r.pending }

-- the budget is spent
abbrev pub halt : Next → Run
halt (rest s) = record { state = s; steps = 0; pending = false }
halt (due s f) = record { state = s; steps = 0; pending = true }

-- one step, and then more
abbrev pub step_once : (State → Run) → Next → Run
step_once more (rest s) = record { state = s; steps = 0; pending = false }
step_once more (due s f) = one_step_more (more (take_entry s f))

-- settling within a budget
abbrev pub settle_run : State → Table → ℕ → Run
settle_run s t zero = halt (next s t)
settle_run s t (suc b) = step_once (λ u. settle_run u t b) (next s t)

abbrev pub outcome_of : Run → Outcome
outcome_of r = if r.pending then Pending else Settled r.steps

-- a rulebook of another item count is refused
abbrev pub fits : State → Table → Bool
fits s t = t.items == s.items

abbrev pub settle_answer : State → Table → ℕ → Result Outcome SessionFault
settle_answer s t b = if fits s t then Ok (outcome_of (settle_run s t b)) else Err fault.Item

abbrev pub settle_leaves : State → Table → ℕ → State
settle_leaves s t b = if fits s t then (settle_run s t b).state else s

-- Questions

abbrev pub active_answer : State → ℕ → Result Bool SessionFault
active_answer s i = if nat_lt i s.items then Ok (active s.trail i) else Err fault.Item

abbrev pub reason_at : List TrailRecord → Option ℕ → Result Reason SessionFault
reason_at t None = Err fault.Inactive
reason_at t (Some k) = Ok (record { first = (slice_index_or t k no_record).first; second = (slice_index_or t k no_record).second })

abbrev pub reason_answer : State → ℕ → Result Reason SessionFault
reason_answer s i = if nat_lt i s.items then reason_at s.trail (find s.trail i) else Err fault.Item
