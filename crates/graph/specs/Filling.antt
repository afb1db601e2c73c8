-- A directory that is being filled: the tables tell what lies before, and the file what lies ahead.
use Rattle.std.specs.Prelude.{◌≡◌, ℕ, ◌+◌, ◌-◌, ◌<◌, ◌≤◌, Bool, false, List, [], ◌∷◌, ◌++◌, length, drop, ◌==◌, slice_index, slice_index_or}
use Rattle.std.specs.List.{flat_map, AllByRecursion}
use Rattle.records.specs.Graphs.{Declaration, dependency, feature, Graph}
use Rattle.records.specs.Encoding.{declaration_bytes, package_bytes, header_bytes, end_bytes}
use Rattle.graph.specs.declared.tables.PackageEntry.{PackageEntry}
use Rattle.graph.specs.declared.tables.DeclarationEntry.{DeclarationEntry}
use Rattle.graph.specs.declared.tables.Directory.{Directory}
use Rattle.graph.specs.Limits.{max_packages, max_dependencies, max_features}
use Rattle.graph.specs.Law.{dependencies_in, features_in, dependency_count, feature_count, LawfulDeclaration, LawfulPackage, Says}
use Rattle.graph.specs.Second.{package_record}
use Rattle.graph.specs.Directory.{RecordAt, no_package, no_declaration_entry}

-- whether the first byte is 1
abbrev pub is_marked : List ℕ → Bool
is_marked [] = false
is_marked (b ∷ bs) = b == 1

pub record Tables : Type 0 where
  pub packages : List PackageEntry
  pub dependencies : List ℕ
  pub features : List ℕ
  pub declarations : List DeclarationEntry

abbrev pub tables_of : Directory → Tables
tables_of dir = record { packages = dir.packages; dependencies = dir.dependencies; features = dir.features; declarations = dir.declarations }

-- the tables tell these dependencies and features, whose records begin at start; after them k is asked
abbrev pub TellsDeclarations : List ℕ → Tables → ℕ → (ℕ → ℕ → ℕ → Type 0) → ℕ → ℕ → ℕ → List Declaration → Type 0
TellsDeclarations file t owner k start d f [] = k start d f
TellsDeclarations file t owner k start d f (dependency x ∷ ps) =
    RecordAt file start (dependency x)
    × (slice_index_or t.declarations (d + f) no_declaration_entry ≡ record { start = start; owner = owner })
    × (slice_index t.dependencies d ≡ start)
    × TellsDeclarations file t owner k (start + length (declaration_bytes (dependency x))) (d + 1) f ps
TellsDeclarations file t owner k start d f (feature x ∷ ps) =
    RecordAt file start (feature x)
    × (slice_index_or t.declarations (d + f) no_declaration_entry ≡ record { start = start; owner = owner })
    × (slice_index t.features f ≡ start)
    × TellsDeclarations file t owner k (start + length (declaration_bytes (feature x))) d (f + 1) ps

-- the tables tell these packages, numbered from p on, with d dependencies and f features before them
abbrev pub TellsGraph : List ℕ → Tables → ℕ → Graph → ℕ → ℕ → ℕ → Type 0
TellsGraph file t p [] start d f = Unit {0}
TellsGraph file t p (a ∷ g) start d f =
    (slice_index_or t.packages p no_package ≡ record { proc_mark = a.proc; dependency = d; feature = f })
    × TellsDeclarations file t p (TellsGraph file t (p + 1) g) (start + length (package_record a)) d f a.declarations

-- u has the entries that are in t so far
pub record Keeps (t u : Tables) (p d f : ℕ) : Type 0 where
  pub packages : (k : ℕ) → k < p → slice_index_or u.packages k no_package ≡ slice_index_or t.packages k no_package
  pub dependencies : (k : ℕ) → k < d → slice_index u.dependencies k ≡ slice_index t.dependencies k
  pub features : (k : ℕ) → k < f → slice_index u.features k ≡ slice_index t.features k
  pub declarations : (k : ℕ) → k < d + f → slice_index_or u.declarations k no_declaration_entry ≡ slice_index_or t.declarations k no_declaration_entry

-- These dependencies and features of the package at hand and these packages of the file's graph lie ahead; tables that keep the entries so
-- far and tell those tell all.
pub record Ahead (file : List ℕ) (t : Tables) (start p d f : ℕ) (ps : List Declaration) (gs : Graph) : Type 0 where
  pub graph : Graph
  pub says : Says file graph
  pub rest : List ℕ
  pub within : start ≤ length file
  pub bytes : drop start file ≡ flat_map declaration_bytes ps ++ (flat_map package_bytes gs ++ (end_bytes ++ rest))
  pub declarations : AllByRecursion LawfulDeclaration ps
  pub packages : AllByRecursion LawfulPackage gs
  pub few_packages : p + length gs ≤ max_packages
  pub few_dependencies : d + (length (dependencies_in ps) + dependency_count gs) ≤ max_dependencies
  pub few_features : f + (length (features_in ps) + feature_count gs) ≤ max_features
  pub tells : (u : Tables) → Keeps t u p d f → TellsDeclarations file u (p - 1) (TellsGraph file u p gs) start d f ps → TellsGraph file u 0 graph (length header_bytes) 0 0

abbrev pub Midway : List ℕ → Tables → ℕ → ℕ → ℕ → ℕ → Type 0
Midway file t start p d f = (ps : List Declaration) × (gs : Graph) × Ahead file t start p d f ps gs
