-- Graphs as data.
use Rattle.std.specs.Prelude.{ℕ, Bool, List}
use Rattle.text.specs.Forms.{Form}
use Rattle.lanes.specs.declared.edge_kinds.EdgeKind.{EdgeKind}

-- an edge from the package that owns it to the package whose number is its end
pub record Dependency : Type 0 where
  pub end : ℕ
  pub edge : EdgeKind
  pub optional : Bool
  pub defaults : Bool
  pub name : List ℕ
  pub asks : List (List ℕ)

pub record Feature : Type 0 where
  pub name : List ℕ
  pub values : List (Form (List ℕ))

-- what belongs to a package, in file order
pub data Declaration : Type 0 where
  dependency : Dependency → Declaration
  feature : Feature → Declaration

pub record Package : Type 0 where
  pub proc : Bool
  pub name : List ℕ
  pub declarations : List Declaration

abbrev pub Graph : Type 0
Graph = List Package
