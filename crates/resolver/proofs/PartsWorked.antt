-- The worked example of a closed target part.
use Rattle.std.proofs.Common.{◌≡◌, ℕ, zero, suc, ◌<◌, true, false, get_or, Some, Option, refl, subst, lit<, arith}
use Rattle.std.specs.Prelude.{IsTrue}
use Rattle.records.specs.Graphs.{Dependency}
use Rattle.graph.specs.Examples.{example}
use Rattle.graph.specs.Places.{dependencies_of, no_dependency}
use Rattle.lanes.specs.declared.sides.Side.{Side}
use Rattle.lanes.specs.declared.sides.Side.TheVariants.{Target, Host}
use Rattle.policy.specs.Answers.{host_split}
use Rattle.resolver.specs.Parts.{DependenciesAgree, PackagesAgree}
use Rattle.resolver.specs.PartExamples.{plain_gen_example, app_and_core, PartExamples}

host-target : ◌≡◌ {A = Option Side} (Some Host) (Some Target) → ⊥
host-target h = let z : ◌≡◌ {A = ℕ} 0 1 = cc in omega arith

no : false ≡ true → ⊥
no h = cc

-- the dependencies of app: on core, and on gen
app-dependencies : (k : ℕ) → k < 2 →
    DependenciesAgree host_split app_and_core example plain_gen_example (get_or (dependencies_of example 0) k no_dependency) (get_or (dependencies_of plain_gen_example 0) k no_dependency)
app-dependencies zero l = record { name = refl; edge = refl; optional = refl; answer = refl; target = λ h. (refl, refl, refl, refl) }
app-dependencies (suc zero) l = record { name = refl; edge = refl; optional = refl; answer = refl; target = λ h. absurd (host-target h) }
app-dependencies (suc (suc k)) l = absurd (omega arith)

packages : (p : ℕ) → p < 3 → IsTrue (app_and_core p) → PackagesAgree host_split app_and_core example plain_gen_example p
packages zero l s = record {
  name = refl;
  proc = refl;
  features = refl;
  count = refl;
  dependencies = λ k d e here there.
      subst (λ (x : Dependency). DependenciesAgree host_split app_and_core example plain_gen_example x e) here.1
      (subst (DependenciesAgree host_split app_and_core example plain_gen_example (get_or (dependencies_of example 0) k no_dependency)) there.1 (app-dependencies k here.0));
}
packages (suc zero) l s = record { name = refl; proc = refl; features = refl; count = refl; dependencies = λ k d e here there. absurd (omega (arith, here.0)) }
packages (suc (suc zero)) l s = absurd (no s)
packages (suc (suc (suc p))) l s = absurd (omega arith)

pub part-examples : PartExamples
part-examples = record {
  split = record { count = refl; packages = packages };
  joint = λ agree. no (((agree.packages 0 (lit< tt) refl).dependencies 1 _ _ (lit< tt, refl) (lit< tt, refl)).target refl).3;
}
