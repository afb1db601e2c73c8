use Rattle.std.proofs.Common.{ap, ◌∙◌}
use Rattle.graph.specs.RowLists.{its}
use Rattle.graph.specs.Namesakes.{left, namesake_view}
use Rattle.graph.proofs.NamesakesLaid.{any-namesake}
use Rattle.graph.proofs.Steps.{any_left, any-given}
use Rattle.graph.proofs.filled.Filled.has_dependency.Goals as goal

pub returns : goal.returns
returns c =
    c.is_some.ensures
    ∙ any-given namesake_view (left c.named.result) _ c.next.result c.next.ensures.steps
    ∙ ap any_left c.named.ensures
    ∙ any-namesake (its c.args.self.now) c.args.p c.args.name.now
