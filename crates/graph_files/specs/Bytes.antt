-- What is written.
use Rattle.std.specs.Prelude.{ℕ, ◌+◌, ◌-◌, ◌^◌, min, Bool, List, [], ◌∷◌, ◌++◌, length, codes, if◌then◌else◌}
use Rattle.std.specs.List.{flat_map}
use Rattle.std.specs.Borrow.{Bor}
use Rattle.std.specs.Int.{w16, w32, to_le_bytes}
use Rattle.graph_files.specs.declared.kinds.RecordKind.{RecordKind}
use Rattle.graph_files.specs.declared.kinds.RecordKind.TheVariants as kind
use Rattle.graph_files.specs.declared.records.DependencyHead.{DependencyHead}
use Rattle.graph_files.specs.declared.values.FeatureString.{FeatureString}
use Rattle.graph_files.specs.Spelling.{spelling}
use Rattle.graph_files.specs.Kinds.{record_kind_number, edge_kind_number}

-- a count in one byte, or the greatest number of a byte
abbrev pub byte_of : ℕ → ℕ
byte_of n = min n 255

abbrev pub switch : Bool → ℕ
switch b = if b then 1 else 0

-- a record: its length, which counts what follows it, its kind and its body
abbrev pub record_bytes : RecordKind → List ℕ → List ℕ
record_bytes k body =
    (to_le_bytes w32 (min (length body + 2) (2 ^ 32 - 1)) ++ to_le_bytes w16 (record_kind_number k)) ++ body

-- a length, and so many bytes
abbrev pub string_bytes : List ℕ → List ℕ
string_bytes text = byte_of (length text) ∷ text

-- a list: a count, and its elements
abbrev pub list_bytes : {A : Type 0} → (A → List ℕ) → List A → List ℕ
list_bytes bytes xs = byte_of (length xs) ∷ flat_map bytes xs

abbrev pub name_bytes : Bor (List ℕ) → List ℕ
name_bytes name = string_bytes name.now

abbrev pub names_bytes : List (Bor (List ℕ)) → List ℕ
names_bytes names = list_bytes name_bytes names

abbrev pub value_bytes : FeatureString → List ℕ
value_bytes value = string_bytes (spelling value)

abbrev pub values_bytes : List FeatureString → List ℕ
values_bytes values = list_bytes value_bytes values

abbrev pub header_bytes : List ℕ
header_bytes = record_bytes kind.Header (1 ∷ 0 ∷ [])

abbrev pub package_bytes : Bool → List ℕ → List ℕ
package_bytes proc_mark name = record_bytes kind.Package (switch proc_mark ∷ string_bytes name)

-- the end, the kind and both switches
abbrev pub head_bytes : DependencyHead → List ℕ
head_bytes head =
    to_le_bytes w16 head.end
    ++ (edge_kind_number head.kind ∷ switch head.optional ∷ switch head.defaults ∷ [])

abbrev pub dependency_bytes : DependencyHead → List ℕ → List (Bor (List ℕ)) → List ℕ
dependency_bytes head name asks =
    record_bytes kind.Dependency ((head_bytes head ++ string_bytes name) ++ names_bytes asks)

abbrev pub feature_bytes : List ℕ → List FeatureString → List ℕ
feature_bytes name values = record_bytes kind.Feature (string_bytes name ++ values_bytes values)

abbrev pub end_bytes : List ℕ
end_bytes = record_bytes kind.End []
