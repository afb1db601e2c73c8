use Rattle.std.proofs.Common.{◌≡◌, ◌+◌, length, Some, ap, ◌∙◌, arith}
use Rattle.graph.specs.RowLists.{its}
use Rattle.graph.proofs.FilledTells.{packages-told, few-packages, few-dependencies, many-depending, dependency-start}
use Rattle.graph.proofs.Namings.{read-dependency, read-no-feature, read-something}
use Rattle.graph.proofs.filled.Filled.dependency.Goals as goal

pub overflow_add-result : goal.overflow_add-result
overflow_add-result c =
    let x = c.args.self.now in
    omega (arith, packages-told x, few-packages x, few-dependencies x, many-depending x, c.requires)

pub returns-in_err-dependency : goal.returns-in_err-dependency
returns-in_err-dependency c = absurd (read-something _ _ (c.declaration_at.ensures _ (dependency-start c.args.self.now c.args.k c.requires)) c.in_err-dependency.was)

pub returns-in-Dependency : goal.returns-in-Dependency
returns-in-Dependency c =
    let x = c.args.self.now in
    let k = c.args.k in
    let r = c.declaration_at.ensures _ (dependency-start x k c.requires) in
    let d = read-dependency _ _ r c.in-Dependency.dependency (c.in_ok-dependency.was ∙ ap (λ y. Some y) c.in-Dependency.is) in
    let z : x.directory.now.counts.packages + k ≡ length (its x) + k = omega (arith, packages-told x) in
    λ i. Some (z i, d i)

pub returns-in-Feature : goal.returns-in-Feature
returns-in-Feature c = absurd (read-no-feature _ _ (c.declaration_at.ensures _ (dependency-start c.args.self.now c.args.k c.requires)) c.in-Feature.field-0 (c.in_ok-dependency.was ∙ ap (λ y. Some y) c.in-Feature.is))
