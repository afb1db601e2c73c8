-- All dependencies of a graph, and the index of them.
use Rattle.std.specs.Prelude.{◌≡◌, ℕ, ◌+◌, ◌==◌, if◌then◌else◌, List, [], ◌∷◌, ◌++◌, map, drop, reverse, Ok, Err, Result}
use Rattle.records.specs.declared.faults.RecordFault.{RecordFault}
use Rattle.records.specs.declared.frames.Kind.TheVariants as kind
use Rattle.records.specs.Encoding.{kind_number}
use Rattle.records.specs.Frames.{Frame}
use Rattle.records.specs.Fields.{View}
use Rattle.records.specs.Bodies.{name_text}
use Rattle.records.specs.Graphs.{Dependency, Declaration, dependency, feature, Graph}
use Rattle.graph.specs.declared.index.Index.{Index}
use Rattle.graph.specs.Keys.{Key}
use Rattle.graph.specs.Law.{dependencies_in}
use Rattle.graph.specs.Second.{DeclarationPlace}
use Rattle.graph.specs.Views.{keys}

-- a dependency, and the number of its package
pub record Depending : Type 0 where
  pub owner : ℕ
  pub dependency : Dependency

abbrev pub owned : ℕ → Dependency → Depending
owned p d = record { owner = p; dependency = d }

-- those of packages numbered from p on, in file order
abbrev pub depending : ℕ → Graph → List Depending
depending p [] = []
depending p (a ∷ g) = map (owned p) (dependencies_in a.declarations) ++ depending (p + 1) g

abbrev pub dependency_key : Depending → Key
dependency_key x = record { owner = x.owner; name = x.dependency.name }

-- the index has all dependencies by package and name, the last one first
abbrev pub Indexed : Index → Graph → Type 0
Indexed index g = keys index ≡ reverse (map dependency_key (depending 0 g))

-- the name in the body of a dependency record: behind its end, edge kind and both switches
abbrev pub name_in : List ℕ → Result (List ℕ × View) RecordFault
name_in body = name_text (record { left = drop 5 body; place = 11 })

-- package and name at the front of a record, if it is a dependency; the rest of the record is not looked at
abbrev pub named_key : ℕ → Result (List ℕ × View) RecordFault → List Key
named_key p (Ok n) = record { owner = p; name = n.0 } ∷ []
named_key p (Err e) = []

abbrev pub key_in : ℕ → Result Frame RecordFault → List Key
key_in p (Ok f) = if f.kind == kind_number kind.Dependency then named_key p (name_in f.body) else []
key_in p (Err e) = []

-- package and name of a record, if it is a dependency
abbrev pub key_if : ℕ → Declaration → List Key
key_if p (dependency d) = dependency_key (owned p d) ∷ []
key_if p (feature f) = []

-- the dependencies among some records by package and name, the last one first
abbrev pub last_keys : List DeclarationPlace → List Key
last_keys [] = []
last_keys (x ∷ xs) = last_keys xs ++ key_if x.owner x.declaration
