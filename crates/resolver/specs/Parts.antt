-- Graphs that agree on a closed target part: a set S of packages whose dependencies, where they lead from the target to the
-- target, lead to packages in S. How a dependency that leads to the host goes on is not compared.
use Rattle.std.specs.Prelude.{IsTrue, ◌≡◌, ℕ, ◌<◌, Bool, length, Some}
use Rattle.records.specs.Graphs.{Dependency, Graph}
use Rattle.graph.specs.OpeningLaw.{DependencyAt}
use Rattle.graph.specs.Places.{dependencies_of, features_of, package_at}
use Rattle.graph.specs.Rules.{lane_of}
use Rattle.lanes.specs.declared.sides.Side.TheVariants.{Target}
use Rattle.policy.specs.Answers.{Answers}

-- dependency d of g and dependency e of h agree: their names, edge kinds and optional switches are equal, and so is the
-- answer that they get from the target; where that answer is target, all else is equal too, and the end is in S
pub record DependenciesAgree (answers : Answers) (S : ℕ → Bool) (g h : Graph) (d e : Dependency) : Type 0 where
  pub name : d.name ≡ e.name
  pub edge : d.edge ≡ e.edge
  pub optional : d.optional ≡ e.optional
  pub answer : answers (lane_of g d) Target ≡ answers (lane_of h e) Target
  pub target : answers (lane_of g d) Target ≡ Some Target → (d.end ≡ e.end) × (d.asks ≡ e.asks) × (d.defaults ≡ e.defaults) × IsTrue (S d.end)

-- package p of g and of h agree: name, proc mark and features are equal, and dependencies agree place by place
pub record PackagesAgree (answers : Answers) (S : ℕ → Bool) (g h : Graph) (p : ℕ) : Type 0 where
  pub name : (package_at g p).name ≡ (package_at h p).name
  pub proc : (package_at g p).proc ≡ (package_at h p).proc
  pub features : features_of g p ≡ features_of h p
  pub count : length (dependencies_of g p) ≡ length (dependencies_of h p)
  pub dependencies : (k : ℕ) (d e : Dependency) → DependencyAt g p k d → DependencyAt h p k e → DependenciesAgree answers S g h d e

-- the graphs have equally many packages, and those in S agree
pub record Agree (answers : Answers) (S : ℕ → Bool) (g h : Graph) : Type 0 where
  pub count : length g ≡ length h
  pub packages : (p : ℕ) → p < length g → IsTrue (S p) → PackagesAgree answers S g h p
