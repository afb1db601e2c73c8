-- What the calls of the boundary answer, in numbers, and what they leave in the words.
use Rattle.std.specs.Prelude.{ℕ, ◌+◌, Bool, false, if◌then◌else◌, List, length, map, Ok, Err, Result, nat_le}
use Rattle.graph.specs.Opening.{over, open_answer}
use Rattle.graph.specs.declared.faults.FileFault.{FileFault}
use Rattle.graph.specs.declared.rows.Opened.{Opened}
use Rattle.policy.specs.Answers.{host_split}
use Rattle.rulebook.specs.Tables.{Table}
use Rattle.rulebook.specs.GraphTable.{graph_table}
use Rattle.session.specs.declared.calls.Outcome.{Outcome}
use Rattle.session.specs.declared.calls.Outcome.TheVariants.{Settled, Pending}
use Rattle.session.specs.declared.calls.SessionFault.{SessionFault}
use Rattle.session.specs.declared.trail.TrailRecord.{TrailRecord}
use Rattle.session.specs.States.{State, open_session, request_answer, request_leaves, settle_answer, settle_leaves}

-- Opening: one more than the number of rows; where it is refused, 0
abbrev pub rows_number : Result Opened FileFault → ℕ
rows_number (Ok o) = o.rows + 1
rows_number (Err e) = 0

abbrev pub naiadiron_open_answer : List ℕ → List ℕ → ℕ
naiadiron_open_answer file words = rows_number (open_answer file words)

-- Requesting and settling: a refused request is the answer, and nothing is settled then
abbrev pub unless_refused : {A : Type 0} → Result (Unit {0}) SessionFault → (SessionFault → A) → A → A
unless_refused (Ok u) refused later = later
unless_refused (Err e) refused later = refused e

abbrev pub request_and_settle_answer : State → Table → List ℕ → ℕ → Result Outcome SessionFault
request_and_settle_answer s t is budget = unless_refused (request_answer s is) Err (settle_answer (request_leaves s is) t budget)

abbrev pub request_and_settle_leaves : State → Table → List ℕ → ℕ → State
request_and_settle_leaves s t is budget = unless_refused (request_answer s is) (λ e. s) (settle_leaves (request_leaves s is) t budget)

-- Reporting: one more than the number of active items, which are written, if all is settled and there is room for them;
-- else 0
abbrev pub items_of : List TrailRecord → List ℕ
items_of trail = map (λ r. r.item) trail

abbrev pub can_report : List TrailRecord → Result Outcome SessionFault → List ℕ → Bool
can_report trail (Ok (Settled n)) active = nat_le (length trail) (length active)
can_report trail (Ok Pending) active = false
can_report trail (Err e) active = false

abbrev pub report_answer : List TrailRecord → Result Outcome SessionFault → List ℕ → ℕ
report_answer trail outcome active = if can_report trail outcome active then length trail + 1 else 0

abbrev pub report_leaves : List TrailRecord → Result Outcome SessionFault → List ℕ → List ℕ
report_leaves trail outcome active = if can_report trail outcome active then over (items_of trail) active else active

-- Settling: all of this in a new session, in memory for as many items as there are
abbrev pub new_session : Table → State
new_session t = open_session t.items t.items t.items

-- what is reported of it
abbrev pub on_report : {A : Type 0} → Table → List ℕ → ℕ → (List TrailRecord → Result Outcome SessionFault → A) → A
on_report t is budget report =
    let s = new_session t in
    report (request_and_settle_leaves s t is budget).trail (request_and_settle_answer s t is budget)

-- by the graph book of some words under host-split
unfoldable pub naiadiron_settle_answer : List ℕ → List ℕ → ℕ → List ℕ → ℕ
naiadiron_settle_answer words is budget active =
    on_report (graph_table host_split words) is budget (λ trail outcome. report_answer trail outcome active)

unfoldable pub naiadiron_settle_leaves : List ℕ → List ℕ → ℕ → List ℕ → List ℕ
naiadiron_settle_leaves words is budget active =
    on_report (graph_table host_split words) is budget (λ trail outcome. report_leaves trail outcome active)
