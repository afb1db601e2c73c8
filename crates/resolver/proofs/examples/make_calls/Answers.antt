use Rattle.std.proofs.Common.{ap, ◌∙◌}
use Rattle.session.specs.Held.{state}
use Rattle.session.specs.States.{State, request_answer}
use Rattle.resolver.specs.WorkedExamples.{active_count, example_items}
use Rattle.resolver.proofs.WorkedTable.{worked-states, settle-known}
use Rattle.resolver.proofs.examples.make_calls.Goals as goal

pub returns-clause-answers : goal.returns-clause-answers
returns-clause-answers g c =
    let t = g.B.Rulebook.table c.args.book.now in
    let e = c.requires.book in
    let s = worked-states t (state c.args.session.now) _ _ _ _ e c.requires.session c.request-request.ensures.state c.settle-settle_3.ensures.state c.settle-settle_7.ensures.state c.settle-settle_1.ensures.state in
    let a = c.request-request.ensures.answer ∙ ap (λ u. request_answer u example_items) c.requires.session in
    let b = c.settle-settle_3.ensures.answer ∙ settle-known t 3 _ _ e s.0 in
    let n = c.active_count-active_count.ensures ∙ ap (λ (u : State). active_count u.trail 20) s.1 in
    let d = c.settle-settle_7.ensures.answer ∙ settle-known t 7 _ _ e s.1 in
    let f = c.settle-settle_1.ensures.answer ∙ settle-known t 1 _ _ e s.2 in
    λ i. record { request = a i; settle_3 = b i; active_count = n i; settle_7 = d i; settle_1 = f i }

pub returns-clause-state : goal.returns-clause-state
returns-clause-state g c =
    let t = g.B.Rulebook.table c.args.book.now in
    (worked-states t (state c.args.session.now) _ _ _ _ c.requires.book c.requires.session c.request-request.ensures.state c.settle-settle_3.ensures.state c.settle-settle_7.ensures.state c.settle-settle_1.ensures.state).3
