use Rattle.std.proofs.Common.{sym, ◌∙◌, arith}
use Rattle.graph.specs.Law.{dependencies_in, features_in}
use Rattle.graph.specs.RowLists.{its}
use Rattle.graph.proofs.Befores.{before-all}
use Rattle.graph.proofs.FilledTells.{packages-told, dependencies-told, features-told}
use Rattle.graph.proofs.filled.Filled.before.Goals as goal

pub returns-clause-dependency : goal.returns-clause-dependency
returns-clause-dependency c =
    let x = c.args.self.now in
    dependencies-told x ∙ sym (before-all dependencies_in (its x) c.args.p (omega (arith, packages-told x, c.if-p-counts.false)))

pub returns-clause-feature : goal.returns-clause-feature
returns-clause-feature c =
    let x = c.args.self.now in
    features-told x ∙ sym (before-all features_in (its x) c.args.p (omega (arith, packages-told x, c.if-p-counts.false)))
