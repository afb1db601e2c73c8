-- A worked example of a closed target part: it is closed under host-split, and not under unified.
use Rattle.std.specs.Prelude.{ℕ, Bool, false, [], ◌∷◌, codes, nat_lt}
use Rattle.lanes.specs.declared.edge_kinds.EdgeKind.TheVariants.{Normal}
use Rattle.records.specs.Graphs.{dependency, Package, Graph}
use Rattle.graph.specs.Examples.{app, core, example}
use Rattle.policy.specs.Answers.{unified, host_split}
use Rattle.resolver.specs.Parts.{Agree}

-- the graph of the worked example, but gen asks nothing of core
abbrev pub plain_gen : Package
plain_gen = record {
  proc = false;
  name = codes "gen";
  declarations = dependency (record { end = 1; edge = Normal; optional = false; defaults = false; name = codes "core"; asks = [] }) ∷ [];
}

abbrev pub plain_gen_example : Graph
plain_gen_example = app (codes "io") ∷ core ∷ plain_gen ∷ []

-- the packages app and core
abbrev pub app_and_core : ℕ → Bool
app_and_core p = nat_lt p 2

-- app needs gen to be built: with host-split that leads to the host, and the change there is not seen from the target;
-- with unified it leads to gen on the target, which is not of the part
pub record PartExamples : Type 0 where
  pub split : Agree host_split app_and_core example plain_gen_example
  pub joint : Agree unified app_and_core example plain_gen_example → ⊥
