-- Agreement goes both ways.
use Rattle.std.proofs.Common.{ℕ, Bool, length, sym, ap, ◌∙◌, subst, arith}
use Rattle.std.specs.Prelude.{IsTrue}
use Rattle.records.specs.Graphs.{Dependency, Graph}
use Rattle.graph.specs.Places.{ItemPlace, unit, dep, feat}
use Rattle.policy.specs.Answers.{Answers}
use Rattle.rulebook.proofs.ItemPlaces.{dependency-owner}
use Rattle.resolver.specs.Parts.{DependenciesAgree, PackagesAgree, Agree}
use Rattle.resolver.specs.PartLaw.{InPart}
use Rattle.resolver.proofs.PartRules.{feature-owner}

module _ (answers : Answers) (S : ℕ → Bool) (g h : Graph) where
  dependencies-back : (d e : Dependency) → DependenciesAgree answers S g h d e → DependenciesAgree answers S h g e d
  dependencies-back d e a = record {
    name = sym a.name;
    edge = sym a.edge;
    optional = sym a.optional;
    answer = sym a.answer;
    target = λ z. let (end, ask, by_default, t) = a.target (a.answer ∙ z) in (sym end, sym ask, sym by_default, subst (λ p. IsTrue (S p)) end t);
  }

  packages-back : (p : ℕ) → PackagesAgree answers S g h p → PackagesAgree answers S h g p
  packages-back p a = record {
    name = sym a.name;
    proc = sym a.proc;
    features = sym a.features;
    count = sym a.count;
    dependencies = λ k d e there here. dependencies-back e d (a.dependencies k e d here there);
  }

  pub agree-back : Agree answers S g h → Agree answers S h g
  agree-back a = record { count = sym a.count; packages = λ p l s. packages-back p (a.packages p (omega (arith, l, a.count)) s) }

  -- the part has the same items
  pub part-back : Agree answers S g h → (x : ItemPlace) → InPart S g x → InPart S h x
  part-back a (unit p) (has, s) = (omega (arith, has, a.count), s)
  part-back a (dep p k) (has, s) = (omega (arith, has, (a.packages p (dependency-owner g p k has) s).count), s)
  part-back a (feat p k) (has, s) = (omega (arith, has, ap length (a.packages p (feature-owner g p k has) s).features), s)
