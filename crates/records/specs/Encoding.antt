-- From graphs to bytes.
use Rattle.std.specs.Prelude.{ℕ, ◌+◌, ◌/◌, ◌%◌, ◌<◌, Bool, List, [], ◌∷◌, ◌++◌, length}
use Rattle.std.specs.List.{flat_map, AllByRecursion}
use Rattle.text.specs.Names.{Name}
use Rattle.text.specs.Forms.{Form, spell, LawfulForm}
use Rattle.lanes.specs.EdgeKinds.{edge_kind_number}
use Rattle.std.specs.Int.{from_bool}
use Rattle.records.specs.declared.frames.Kind.{Kind}
use Rattle.records.specs.declared.frames.Kind.TheVariants as kind
use Rattle.records.specs.Graphs.{Dependency, Feature, Declaration, dependency, feature, Package, Graph}

-- a number in two bytes and in four, the lowest byte first
abbrev pub two : ℕ → List ℕ
two x = x % 256 ∷ x / 256 ∷ []

abbrev pub four : ℕ → List ℕ
four x = x % 256 ∷ (x / 256) % 256 ∷ (x / 65536) % 256 ∷ x / 16777216 ∷ []

-- the numbers of the kinds of records
abbrev pub kind_number : Kind → ℕ
kind_number kind.Header = 1
kind_number kind.Package = 2
kind_number kind.Dependency = 3
kind_number kind.Feature = 4
kind_number kind.End = 5

-- a record: its length, which counts kind and body, its kind and its body
abbrev pub record_bytes : ℕ → List ℕ → List ℕ
record_bytes k body = four (length body + 2) ++ (two k ++ body)

-- a string: one length byte and that many bytes
abbrev pub string : List ℕ → List ℕ
string t = length t ∷ t

-- a list: a count byte and that many elements
abbrev pub list_bytes : {A : Type 0} → (A → List ℕ) → List A → List ℕ
list_bytes bytes xs = length xs ∷ flat_map bytes xs

-- a feature string
abbrev pub value : Form (List ℕ) → List ℕ
value f = string (spell f)

-- proc mark, name
abbrev pub package_body : Bool → List ℕ → List ℕ
package_body proc name = (from_bool proc ∷ []) ++ string name

-- end, edge kind, optional, defaults, name, asks
abbrev pub dependency_body : Dependency → List ℕ
dependency_body d =
    two d.end ++ ((edge_kind_number d.edge ∷ []) ++ ((from_bool d.optional ∷ [])
    ++ ((from_bool d.defaults ∷ []) ++ (string d.name ++ list_bytes string d.asks))))

-- name, values
abbrev pub feature_body : Feature → List ℕ
feature_body f = string f.name ++ list_bytes value f.values

abbrev pub declaration_bytes : Declaration → List ℕ
declaration_bytes (dependency d) = record_bytes (kind_number kind.Dependency) (dependency_body d)
declaration_bytes (feature f) = record_bytes (kind_number kind.Feature) (feature_body f)

abbrev pub package_bytes : Package → List ℕ
package_bytes p =
    record_bytes (kind_number kind.Package) (package_body p.proc p.name)
    ++ flat_map declaration_bytes p.declarations

abbrev pub end_bytes : List ℕ
end_bytes = record_bytes (kind_number kind.End) []

-- the version of the format
abbrev pub version : ℕ
version = 1

abbrev pub header_bytes : List ℕ
header_bytes = record_bytes (kind_number kind.Header) (two version)

-- a header, the packages each with what belongs to it, and an end record
abbrev pub encode : Graph → List ℕ
encode g = header_bytes ++ (flat_map package_bytes g ++ end_bytes)

-- what is asked of a dependency and of a feature by itself
abbrev pub LawfulDependency : Dependency → Type 0
LawfulDependency d =
    (d.end < 65536) × Name d.name × (length d.asks < 256) × AllByRecursion Name d.asks

abbrev pub LawfulFeature : Feature → Type 0
LawfulFeature f = Name f.name × (length f.values < 256) × AllByRecursion LawfulForm f.values

-- each number is a byte
abbrev pub Bytes : List ℕ → Type 0
Bytes bs = AllByRecursion (λ b. b < 256) bs
