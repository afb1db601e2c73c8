use Rattle.std.proofs.Common.{refl, arith}
use Rattle.graph.specs.RowLists.{its}
use Rattle.graph.specs.Law.{dependencies_in}
use Rattle.graph.proofs.Befores.{before-within, before-after}
use Rattle.graph.proofs.FilledTells.{dependencies-told, few-packages, many-depending, names-count}
use Rattle.graph.proofs.filled.Filled.entries_of.Goals as goal

pub overflow_sub-result : goal.overflow_sub-result
overflow_sub-result c =
    let x = c.args.self.now in
    let t = before-after dependencies_in refl (its x) (few-packages x) c.args.p c.saturating_add.result c.saturating_add.ensures in
    omega (arith, t, c.before-to.ensures.dependency, dependencies-told x, before-within dependencies_in refl (its x) c.args.p)

pub overflow_sub-result-2 : goal.overflow_sub-result-2
overflow_sub-result-2 c =
    let x = c.args.self.now in
    omega (arith, c.before-from.ensures.dependency, dependencies-told x, before-within dependencies_in refl (its x) c.args.p)

pub returns-clause-low : goal.returns-clause-low
returns-clause-low c =
    let x = c.args.self.now in
    let t = before-after dependencies_in refl (its x) (few-packages x) c.args.p c.saturating_add.result c.saturating_add.ensures in
    omega (arith, t, c.before-to.ensures.dependency, dependencies-told x, many-depending x)

pub returns-clause-high : goal.returns-clause-high
returns-clause-high c =
    let x = c.args.self.now in
    omega (arith, c.before-from.ensures.dependency, dependencies-told x, many-depending x)

pub returns-clause-within : goal.returns-clause-within
returns-clause-within c =
    let x = c.args.self.now in
    let t = before-after dependencies_in refl (its x) (few-packages x) c.args.p c.saturating_add.result c.saturating_add.ensures in
    (omega (arith, t, c.before-from.ensures.dependency, c.before-to.ensures.dependency), omega (arith, names-count x, dependencies-told x, many-depending x))
