use Rattle.std.proofs.Common.{◌≡◌, ◌+◌, length, get_or, sym, refl, ap, ◌∙◌, subst, arith}
use Rattle.records.specs.Graphs.{dependency}
use Rattle.graph.specs.RowLists.{its, ReadsAs}
use Rattle.graph.specs.Law.{dependencies_in}
use Rattle.graph.specs.Places.{dependencies_of, dependencies_before, no_dependency}
use Rattle.graph.proofs.Befores.{before-within, before-after}
use Rattle.graph.proofs.FilledTells.{packages-told, few-packages, few-dependencies, window-length, dependency-window}
use Rattle.graph.proofs.filled.Filled.dependencies.Goals as goal

pub overflow_add-self : goal.overflow_add-self
overflow_add-self c =
    let x = c.args.self.now in
    omega (arith, packages-told x, few-packages x, few-dependencies x, before-within dependencies_in refl (its x) c.args.p, c.before-from.ensures.dependency)

pub between-requires : goal.between-requires
between-requires c =
    let x = c.args.self.now in
    let t = before-after dependencies_in refl (its x) (few-packages x) c.args.p c.saturating_add.result c.saturating_add.ensures in
    record {
      within = (omega (arith, t, c.before-from.ensures.dependency, c.before-to.ensures.dependency), omega (arith, t, c.before-to.ensures.dependency, few-dependencies x, before-within dependencies_in refl (its x) c.args.p));
      few = omega (arith, t, c.before-from.ensures.dependency, c.before-to.ensures.dependency, packages-told x, few-packages x, few-dependencies x, before-within dependencies_in refl (its x) c.args.p);
    }

pub returns : goal.returns
returns c =
    let x = c.args.self.now in
    let p = c.args.p in
    let from = c.before-from.result.dependency in
    let to = c.before-to.result.dependency in
    let table = x.directory.now.dependencies in
    let t = before-after dependencies_in refl (its x) (few-packages x) p c.saturating_add.result c.saturating_add.ensures in
    let f : from ≡ dependencies_before (its x) p = c.before-from.ensures.dependency in
    let all : to ≡ from + length (dependencies_of (its x) p) = omega (arith, f, t, c.before-to.ensures.dependency) in
    record {
      count = ap length c.between.ensures.starts ∙ window-length table from to (omega arith) (omega (arith, few-dependencies x, before-within dependencies_in refl (its x) p)) ∙ omega arith;
      records = λ k l. subst (λ xs. ReadsAs x (get_or xs k 0) (dependency (get_or (dependencies_of (its x) p) k no_dependency))) (sym c.between.ensures.starts) (dependency-window x p from to f all k l);
      number = λ k. omega (arith, c.between.ensures.first, packages-told x, f);
    }
