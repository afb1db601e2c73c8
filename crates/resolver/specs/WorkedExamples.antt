-- The worked examples: what is so for the example graph, for feature strings, and for sessions by the example's words.
use Rattle.std.specs.Prelude.{◌≡◌, ℕ, true, false, List, [], ◌∷◌, ◌++◌, Some, None, Ok, Err}
use Rattle.text.specs.Examples as text
use Rattle.graph.specs.Examples as graph
use Rattle.graph.specs.Examples.{example_words}
use Rattle.refusals.specs.Refusals.{about_no_record}
use Rattle.policy.specs.Answers.{host_split}
use Rattle.rulebook.specs.Tables.{Table}
use Rattle.rulebook.specs.GraphTable.{graph_table}
use Rattle.session.specs.declared.trail.TrailRecord.{TrailRecord}
use Rattle.session.specs.declared.calls.SessionFault.TheVariants.{Item}
use Rattle.session.specs.declared.calls.Outcome.TheVariants.{Settled, Pending}
use Rattle.session.specs.declared.calls.Answer.{Answer}
use Rattle.session.specs.declared.calls.Answer.TheVariants as answer
use Rattle.session.specs.Causes.{Because}
use Rattle.session.specs.Refusals.{session_refusal}
use Rattle.session.specs.Trails.{request_record, conclusion_record}
use Rattle.session.specs.States.{State, open_session, request_all, settle_run, request_answer, settle_answer}
use Rattle.session.specs.Histories.{Call, request, settle, answers_from, History, history}
use Rattle.session.specs.SessionLaw.{sum_active, watch_entries}
use Rattle.resolver.specs.PartExamples.{PartExamples}

-- the rules of the example's words where a build dependency leads to the host
abbrev pub example_table : Table
example_table = graph_table host_split example_words

-- a new session of 20 items, in memory for as many
abbrev pub new_session : State
new_session = open_session 20 20 20

-- app, and the feature default of app, on the target
abbrev pub example_items : List ℕ
example_items = 0 ∷ 6 ∷ []

abbrev pub example_asked : State
example_asked = request_all new_session example_items

-- trail records: an item with one cause, and with two
abbrev pub one_cause : ℕ → ℕ → TrailRecord
one_cause i k = conclusion_record i k None

abbrev pub two_causes : ℕ → ℕ → ℕ → TrailRecord
two_causes i k j = conclusion_record i k (Some j)

-- what becomes active, in order; items from 10 on are on the host
abbrev pub example_trail : List TrailRecord
example_trail =
    request_record 0
    ∷ request_record 6
    ∷ one_cause 4 0
    ∷ one_cause 7 1
    ∷ one_cause 12 2
    ∷ one_cause 3 3
    ∷ two_causes 8 3 5
    ∷ one_cause 15 4
    ∷ one_cause 1 5
    ∷ one_cause 11 7
    ∷ one_cause 19 7
    ∷ one_cause 18 10
    ∷ []

-- how many of the items below n are active
abbrev pub active_count : List TrailRecord → ℕ → ℕ
active_count = sum_active (λ i. 1)

-- the request, and settling within 3, 7 and 1 steps, on a new session
abbrev pub example_calls : List Call
example_calls = request example_items ∷ settle 3 ∷ settle 7 ∷ settle 1 ∷ []

abbrev pub example_answers : List Answer
example_answers = answer.Request (Ok tt) ∷ answer.Settle (Ok Pending) ∷ answer.Settle (Ok Pending) ∷ answer.Settle (Ok (Settled 1)) ∷ []

abbrev pub example_history : History
example_history = history example_table 20 example_calls

pub record WorkedExamples : Type 0 where
  -- below sessions: graph files, feature strings, closed target parts
  pub files : graph.Examples
  pub strings : text.Examples
  pub parts : PartExamples
  -- the rules on both sides
  pub items : example_table.items ≡ 20
  pub rows : example_table.rows ≡ 10
  -- 11 steps leave nothing pending; 3 do not, and 10 do not
  pub request_accepted : request_answer new_session example_items ≡ Ok tt
  pub settle_11 : settle_answer example_asked example_table 11 ≡ Ok (Settled 11)
  pub trail : (settle_run example_asked example_table 11).state.trail ≡ example_trail
  pub settle_3 : settle_answer example_asked example_table 3 ≡ Ok Pending
  pub active_after_3 : active_count (settle_run example_asked example_table 3).state.trail 20 ≡ 5
  pub settle_10 : settle_answer example_asked example_table 10 ≡ Ok Pending
  -- so too in parts
  pub answers : answers_from new_session example_table example_calls ≡ example_answers
  pub trail_in_parts : example_history.state.trail ≡ example_trail
  pub accepted : example_history.accepted ≡ example_items
  pub steps : example_history.steps ≡ 11
  pub entries : watch_entries example_table example_history.state ≡ 11
  pub settled : example_history.settled ≡ true
  -- item 8 has trail number 6 since item 7, with trail number 3, has an entry with the partner 3, which has trail number 5
  pub because : Because example_table example_trail example_items 6 (two_causes 8 3 5)
  -- a request that is refused gives nothing; one that is accepted, also of no items, is to be settled again
  pub refused_request : (history example_table 20 (request (0 ∷ 20 ∷ []) ∷ [])).accepted ≡ []
  pub request_after : (history example_table 20 (example_calls ++ request [] ∷ [])).settled ≡ false
  -- a request beyond the items is refused, by number 10, one of the last item is not
  pub request_beyond : request_answer new_session (20 ∷ []) ≡ Err Item
  pub number : session_refusal Item ≡ about_no_record 10
  pub request_last : request_answer new_session (19 ∷ []) ≡ Ok tt
