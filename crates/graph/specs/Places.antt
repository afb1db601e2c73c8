-- The places of items in a graph, and their numbers.
use Rattle.std.specs.Prelude.{ℕ, ◌+◌, false, List, [], length, slice_index_or}
use Rattle.lanes.specs.declared.edge_kinds.EdgeKind.TheVariants.{Normal}
use Rattle.records.specs.Graphs.{Dependency, Feature, Package, Graph}
use Rattle.graph.specs.Law.{dependencies_in, features_in, dependency_count, feature_count, count_before}

-- the place of an item: the unit of package p, its dependency k, its feature k
pub data ItemPlace : Type 0 where
  unit : (p : ℕ) → ItemPlace
  dep : (p k : ℕ) → ItemPlace
  feat : (p k : ℕ) → ItemPlace

-- package p; an empty one beyond the packages
abbrev pub empty_package : Package
empty_package = record { proc = false; name = []; declarations = [] }

abbrev pub package_at : Graph → ℕ → Package
package_at g p = slice_index_or g p empty_package

-- its dependencies, and its features
abbrev pub dependencies_of : Graph → ℕ → List Dependency
dependencies_of g p = dependencies_in (package_at g p).declarations

abbrev pub features_of : Graph → ℕ → List Feature
features_of g p = features_in (package_at g p).declarations

-- what is read of a list beyond its end
abbrev pub no_dependency : Dependency
no_dependency = record { end = 0; edge = Normal; optional = false; defaults = false; name = []; asks = [] }

abbrev pub no_feature : Feature
no_feature = record { name = []; values = [] }

-- how many dependencies, and features, the packages before p have
abbrev pub dependencies_before : Graph → ℕ → ℕ
dependencies_before = count_before dependencies_in

abbrev pub features_before : Graph → ℕ → ℕ
features_before = count_before features_in

-- the local number of an item: units first, then dependencies, then features, each in file order
abbrev pub number : Graph → ItemPlace → ℕ
number g (unit p) = p
number g (dep p k) = length g + (dependencies_before g p + k)
number g (feat p k) = length g + dependency_count g + (features_before g p + k)

abbrev pub item_count : Graph → ℕ
item_count g = length g + dependency_count g + feature_count g
