use Rattle.std.proofs.Common.{◌≡◌, ◌+◌, length, get_or, sym, refl, ap, ◌∙◌, subst, arith}
use Rattle.records.specs.Graphs.{feature}
use Rattle.graph.specs.RowLists.{its, ReadsAs}
use Rattle.graph.specs.Law.{features_in}
use Rattle.graph.specs.Places.{features_of, features_before, no_feature}
use Rattle.graph.proofs.Befores.{before-within, before-after}
use Rattle.graph.proofs.FilledTells.{packages-told, dependencies-told, few-packages, few-dependencies, few-features, window-length, feature-window}
use Rattle.graph.proofs.filled.Filled.features.Goals as goal

pub overflow_add-before-2 : goal.overflow_add-before-2
overflow_add-before-2 c =
    let x = c.args.self.now in
    omega (arith, packages-told x, dependencies-told x, few-packages x, few-dependencies x, few-features x, before-within features_in refl (its x) c.args.p, c.before-from.ensures.feature)

pub between-requires : goal.between-requires
between-requires c =
    let x = c.args.self.now in
    let t = before-after features_in refl (its x) (few-packages x) c.args.p c.saturating_add.result c.saturating_add.ensures in
    record {
      within = (omega (arith, t, c.before-from.ensures.feature, c.before-to.ensures.feature), omega (arith, t, c.before-to.ensures.feature, few-features x, before-within features_in refl (its x) c.args.p));
      few = omega (arith, t, c.before-from.ensures.feature, c.before-to.ensures.feature, packages-told x, dependencies-told x, few-packages x, few-dependencies x, few-features x, before-within features_in refl (its x) c.args.p);
    }

pub returns : goal.returns
returns c =
    let x = c.args.self.now in
    let p = c.args.p in
    let from = c.before-from.result.feature in
    let to = c.before-to.result.feature in
    let table = x.directory.now.features in
    let t = before-after features_in refl (its x) (few-packages x) p c.saturating_add.result c.saturating_add.ensures in
    let f : from ≡ features_before (its x) p = c.before-from.ensures.feature in
    let all : to ≡ from + length (features_of (its x) p) = omega (arith, f, t, c.before-to.ensures.feature) in
    record {
      count = ap length c.between.ensures.starts ∙ window-length table from to (omega arith) (omega (arith, few-features x, before-within features_in refl (its x) p)) ∙ omega arith;
      records = λ k l. subst (λ xs. ReadsAs x (get_or xs k 0) (feature (get_or (features_of (its x) p) k no_feature))) (sym c.between.ensures.starts) (feature-window x p from to f all k l);
      number = λ k. omega (arith, c.between.ensures.first, packages-told x, dependencies-told x, f);
    }
