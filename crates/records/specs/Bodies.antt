-- The bodies of records, field by field.
use Rattle.std.specs.Prelude.{◌≡◌, ℕ, zero, suc, ◌+◌, ◌≤◌, Bool, List, [], ◌∷◌, map, length, take, drop, Some, None, Ok, Err, Option, Result}
use Rattle.std.specs.Borrow.{Bor}
use Rattle.text.specs.declared.faults.StringFault.{StringFault}
use Rattle.text.specs.Forms.{Form, plain, Piece, without_places}
use Rattle.text.specs.Readers.{read_form}
use Rattle.records.specs.declared.strings.Strings.{Strings}
use Rattle.records.specs.declared.bodies.Package.{Package as PackageBody}
use Rattle.records.specs.declared.bodies.Dependency.{Dependency as DependencyBody}
use Rattle.records.specs.declared.bodies.Feature.{Feature as FeatureBody}
use Rattle.records.specs.Fields.{Field, and_then, give, byte_field, word_field, name_field, form_field, switch_field, edge_field, end_field, with_value, void}
use Rattle.records.specs.Graphs.{Dependency, Feature}

-- so many of one field
abbrev pub many : {A : Type 0} → Field A → ℕ → Field (List A)
many m zero = give []
many m (suc n) = and_then m (λ a. and_then (many m n) (λ more. give (a ∷ more)))

-- a name, and a feature string, without their places
abbrev pub name_text : Field (List ℕ)
name_text = and_then name_field (λ p. give p.text)

abbrev pub form_text : Field (Form (List ℕ))
form_text = and_then form_field (λ f. give (without_places f))

-- a count byte and that many names, or feature strings
abbrev pub names_field : Field (List (List ℕ))
names_field = and_then byte_field (many name_text)

abbrev pub forms_field : Field (List (Form (List ℕ)))
forms_field = and_then byte_field (many form_text)

-- the values of a feature end its record
abbrev pub values_field : Field (List (Form (List ℕ)))
values_field = and_then forms_field (λ values. and_then end_field (λ _. give values))

-- so many strings at the front of some bytes
abbrev pub strings_in : ℕ → List ℕ → List (List ℕ)
strings_in zero bs = []
strings_in (suc n) [] = []
strings_in (suc n) (k ∷ bs) = take k bs ∷ strings_in n (drop k bs)

-- what a feature string says; those in a graph have a form
abbrev pub form_or_plain : List ℕ → Result (Form Piece) StringFault → Form (List ℕ)
form_or_plain t (Ok f) = without_places f
form_or_plain t (Err e) = plain t

abbrev pub form_in : List ℕ → Form (List ℕ)
form_in t = form_or_plain t (read_form t)

-- a count byte and that many strings, each of which m reads; they stay strings
abbrev pub list_field : {A : Type 0} → Field A → Field (List (List ℕ))
list_field m = and_then byte_field (λ n v. with_value (strings_in n v.left) (void (many m n) v))

-- a list of strings in a record, as what they are
abbrev pub texts : Strings → List (List ℕ)
texts s = strings_in s.count s.bytes.now

abbrev pub forms : Strings → List (Form (List ℕ))
forms s = map form_in (texts s)

-- its count is that of its strings
abbrev pub Full : Strings → Type 0
Full s = length (texts s) ≡ s.count

-- a package: proc mark, name
pub record Head : Type 0 where
  pub proc : Bool
  pub name : List ℕ

abbrev pub package_view : PackageBody → Head
package_view p = record { proc = p.proc_mark; name = p.name.bytes.now }

abbrev pub package_field : Field Head
package_field =
    and_then switch_field (λ proc.
    and_then name_text (λ name.
    and_then end_field (λ _.
    give (record { proc = proc; name = name }))))

-- the place of its name, where the body begins at `at`: behind the proc mark and the length byte of the name
abbrev pub package_name_at : ℕ → ℕ
package_name_at at = at + 2

abbrev pub feature_view : FeatureBody → Feature
feature_view f = record { name = f.name.bytes.now; values = forms f.values }

-- a dependency: end, edge kind, optional, defaults, name, asks
abbrev pub dependency_view : DependencyBody → Dependency
dependency_view d = record {
  end = d.end;
  edge = d.edge;
  optional = d.optional;
  defaults = d.defaults;
  name = d.name.bytes.now;
  asks = texts d.asks;
}

abbrev pub dependency_field : Field Dependency
dependency_field =
    and_then word_field (λ end.
    and_then edge_field (λ edge.
    and_then switch_field (λ optional.
    and_then switch_field (λ defaults.
    and_then name_text (λ name.
    and_then names_field (λ asks.
    and_then end_field (λ _.
    give (record {
      end = end;
      edge = edge;
      optional = optional;
      defaults = defaults;
      name = name;
      asks = asks;
    }))))))))

-- the place of its name: behind the end, the edge kind, both switches and the length byte of the name
abbrev pub dependency_name_at : ℕ → ℕ
dependency_name_at at = at + 6

abbrev pub bytes_in : Option (Bor (List ℕ)) → Option (List ℕ)
bytes_in None = None
bytes_in (Some x) = Some x.now

-- a string's length is one byte
abbrev pub Short : Option (List ℕ) → Type 0
Short None = Unit {0}
Short (Some t) = length t ≤ 255
