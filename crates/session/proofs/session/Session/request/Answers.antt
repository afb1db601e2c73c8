use Rattle.std.proofs.Common.{◌<◌, ◌+◌, length, drop, sym, ap, ◌∙◌}
use Rattle.std.proofs.lemmas.Bool.{and_parts}
use Rattle.std.proofs.lemmas.List.{at_drop_more}
use Rattle.session.specs.Held.{state}
use Rattle.session.specs.States.{request_all, all_below}
use Rattle.session.proofs.Keeping.{kept-on}
use Rattle.session.proofs.session.Session.request.Goals as goal

pub loop-item-preserved : goal.loop-item-preserved
loop-item-preserved c =
    let l = c.loop-item in
    let k = l.item-index in
    let xs = c.args.list.now in
    let r = c.request_one.ensures in
    let w : k < length xs = c.loop-item-test.true in
    let low = and_parts _ _ (sym (at_drop_more (all_below l.self.items) xs k 0 w) ∙ l.invariant.1) in (
      ap (λ u. request_all u (drop (k + 1) xs)) r.state ∙ sym (at_drop_more (λ ys. request_all (state l.self) ys) xs k 0 w) ∙ l.invariant.0,
      ap (λ n. all_below n (drop (k + 1) xs)) r.keeps.items ∙ low.1,
      kept-on _ _ _ l.invariant.2 r.keeps,
    )
