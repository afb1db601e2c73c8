use Rattle.std.proofs.Common.{◌<◌, ◌≤◌, map, length, ◌∙◌, arith}
use Rattle.std.proofs.lemmas.List.{drop-set-lt}
use Rattle.session.specs.Held.{state}
use Rattle.session.specs.Histories.{call_view}
use Rattle.session.proofs.Keeping.{kept-on}
use Rattle.resolver.proofs.CallLists.{parts-hold, goes-on, all-state, all-answers, more-state, more-answers}
use Rattle.resolver.proofs.call_lists.run_calls.Goals as goal

pub loop-k-preserved : goal.loop-k-preserved
loop-k-preserved g c =
    let t = g.B.Rulebook.table c.args.book.now in
    let l = c.loop-k in
    let cs = c.args.calls.now in
    let m = c.call.ensures in
    let w : l.k < length cs = c.loop-k-test.true in (
      more-state t cs l.k _ w (state l.session) (state c.call.new.self) c.call.result m.answer m.state _ l.invariant.0,
      more-answers t cs l.k _ w (state l.session) (state c.call.new.self) c.call.result m.answer m.state l.answers _ (omega (arith, w)) l.invariant.1,
      drop-set-lt (length cs) l.answers l.k c.call.result w ∙ l.invariant.2,
      kept-on _ _ _ l.invariant.3 m.keeps,
    )

pub returns-clause-law : goal.returns-clause-law
returns-clause-law g c = λ n before e _.
    let t = g.B.Rulebook.table c.args.book.now in
    let l = c.loop-k in
    let cs = c.args.calls.now in
    let over : length cs ≤ l.k = c.loop-k-test.false in
    let most : l.k ≤ length cs = omega (arith, l.auto.k-end) in
    goes-on t (g.met.B.Rulebook.lawful c.args.book.now) n before (map call_view cs) _ _ _ e
    (all-state t cs l.k over (state l.session) _ l.invariant.0)
    (all-answers t cs l.k over (state l.session) l.answers _ most l.invariant.1)

pub returns-then-answers-calls-clause-parts : goal.returns-then-answers-calls-clause-parts
returns-then-answers-calls-clause-parts g c = parts-hold

pub returns-clause-parts : goal.returns-clause-parts
returns-clause-parts g c = parts-hold
