use Rattle.std.proofs.Common.{◌≡◌, ◌+◌, length, Some, None, ap, ◌∙◌, arith}
use Rattle.graph.specs.Law.{dependency_count}
use Rattle.graph.specs.RowLists.{its}
use Rattle.graph.proofs.FilledTells.{packages-told, dependencies-told, few-packages, few-dependencies, finds-feature}
use Rattle.graph.proofs.Links.{found}
use Rattle.graph.proofs.filled.Filled.feature_item.Goals as goal

pub returns-in_err-k : goal.returns-in_err-k
returns-in_err-k c = c.from_residual.ensures ∙ finds-feature c.args.self.now c.args.owner c.args.name.now None c.in_err-k.ensures

pub overflow_add-result : goal.overflow_add-result
overflow_add-result c =
    let x = c.args.self.now in
    let k = found x.directory.now.index.lists.entries c.args.owner c.args.name.now x.directory.now.index.lists.count _ c.in_ok-k.ensures in
    omega (arith, packages-told x, dependencies-told x, few-packages x, few-dependencies x, k.0, c.from.ensures, x.directory.now.index.few)

pub returns : goal.returns
returns c =
    let x = c.args.self.now in
    let n = x.directory.now.counts in
    let k = c.in_ok-k.k in
    let base : (n.packages + n.dependencies) + c.from.result ≡ (length (its x) + dependency_count (its x)) + k = omega (arith, packages-told x, dependencies-told x, c.from.ensures) in
    ap (λ i. Some i) base ∙ finds-feature x c.args.owner c.args.name.now (Some k) c.in_ok-k.ensures
