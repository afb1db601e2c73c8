use Rattle.std.proofs.Common.{◌∙◌}
use Rattle.policy.specs.Answers.{host_split}
use Rattle.rulebook.specs.GraphTable.{graph_table}
use Rattle.session.specs.Held.{state}
use Rattle.boundary.specs.Calls.{report_answer, report_leaves, naiadiron_settle_answer, naiadiron_settle_leaves}
use Rattle.boundary.proofs.Runs.{opened-as, reports}
use Rattle.boundary.proofs.LeastItems.{settle-law}
use Rattle.boundary.proofs.settling.settle_graph.Goals as goal

pub returns-clause-answer : goal.returns-clause-answer
unfolding naiadiron_settle_answer
returns-clause-answer c =
    let items = c.items-items.ensures in
    let begun = opened-as (state c.new-session.result) _ _ _ _ c.new-session.ensures.state items (c.as_mut_slice.ensures.len ∙ c.in_ok-places.ensures.len ∙ items) (c.as_mut_slice-2.ensures.len ∙ c.in_ok-marks.ensures.len ∙ items) in
    let done = c.request_and_settle-outcome in
    c.report.ensures.answer ∙ reports (λ trail outcome. report_answer trail outcome c.args.active.now) _ (graph_table host_split c.args.words.now) c.args.requests.now c.args.budget _ (state done.new.session) done.result c.new-book.ensures.table begun done.ensures.answer done.ensures.state

pub returns-clause-active : goal.returns-clause-active
unfolding naiadiron_settle_leaves
returns-clause-active c =
    let items = c.items-items.ensures in
    let begun = opened-as (state c.new-session.result) _ _ _ _ c.new-session.ensures.state items (c.as_mut_slice.ensures.len ∙ c.in_ok-places.ensures.len ∙ items) (c.as_mut_slice-2.ensures.len ∙ c.in_ok-marks.ensures.len ∙ items) in
    let done = c.request_and_settle-outcome in
    c.report.ensures.active ∙ reports (λ trail outcome. report_leaves trail outcome c.args.active.now) _ (graph_table host_split c.args.words.now) c.args.requests.now c.args.budget _ (state done.new.session) done.result c.new-book.ensures.table begun done.ensures.answer done.ensures.state

pub returns-clause-law : goal.returns-clause-law
returns-clause-law c = settle-law c.args.words.now c.args.requests.now c.args.budget c.args.active.now _ _ (returns-clause-answer c) (returns-clause-active c)
