use Rattle.std.proofs.Common.{ap, ◌∙◌}
use Rattle.graph.specs.RowLists.{its}
use Rattle.graph.specs.Namesakes.{left}
use Rattle.graph.proofs.NamesakesLaid.{all_have, all-namesakes-have}
use Rattle.graph.proofs.filled.Filled.ends_have.Goals as goal

pub loop-d-init : goal.loop-d-init
loop-d-init c =
    ap (λ i. all_have (its c.args.self.now) c.args.feature.now (left i)) c.into_iter-d-iterator.ensures.into_iter_gives
    ∙ ap (all_have (its c.args.self.now) c.args.feature.now) c.named-d-items.ensures
    ∙ all-namesakes-have (its c.args.self.now) c.args.p c.args.name.now c.args.feature.now
