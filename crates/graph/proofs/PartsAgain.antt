-- A record that stands at a place is read again as what it says.
use Rattle.std.proofs.Common.{◌≡◌, ℕ, ◌+◌, List, length, drop, Some, Ok, sym, ap, ◌∙◌, append-nil}
use Rattle.records.specs.Fields.{View, on_ok, and_then, give}
use Rattle.records.specs.Bodies.{values_field}
use Rattle.records.specs.Graphs.{Feature, Declaration, dependency, feature}
use Rattle.records.specs.Encoding.{string, list_bytes, value, dependency_body, feature_body, LawfulFeature}
use Rattle.records.proofs.Framing.{frame-reads}
use Rattle.records.proofs.Codes.{at}
use Rattle.records.proofs.CodedFields.{name-coded, values-closed}
use Rattle.graph.specs.Declarations.{feature_again, or_none, declaration_as, declaration_in}
use Rattle.graph.specs.Directory.{RecordAt}
use Rattle.graph.proofs.Allowances.{dependency-reads}

feature-reads : (f : Feature) (k : ℕ) → LawfulFeature f → (w : View) × (feature_again (at (feature_body f) k) ≡ Ok (f, w))
feature-reads f k l =
    let e = name-coded.complete f.name (list_bytes value f.values) k l.0 in
    let v = values-closed.complete f.values (k + length (string f.name)) tt ((l.1, l.2), tt) in
    let b : values_field (at (list_bytes value f.values) (k + length (string f.name))) ≡ Ok (f.values, v.0) =
    ap (λ x. values_field (at x (k + length (string f.name)))) (sym (append-nil (list_bytes value f.values))) ∙ v.1 in (
      v.0,
      ap (λ r. on_ok r (λ name. and_then values_field (λ values. give (record { name = name; values = values })))) e
          ∙ ap (λ r. on_ok r (λ values. give (record { name = f.name; values = values }))) b,
    )

pub stands-reads : (file : List ℕ) (start : ℕ) (p : Declaration) → RecordAt file start p → declaration_in (drop start file) ≡ Some p
stands-reads file start (dependency d) s =
    let r = dependency-reads d 6 s.lawful in
    ap declaration_in s.bytes ∙ ap declaration_as (frame-reads 3 (dependency_body d) s.rest) ∙ ap (or_none dependency) r.1
stands-reads file start (feature f) s =
    let r = feature-reads f 6 s.lawful in
    ap declaration_in s.bytes ∙ ap declaration_as (frame-reads 4 (feature_body f) s.rest) ∙ ap (or_none feature) r.1
