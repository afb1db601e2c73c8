-- A dependency or feature record, read again.
use Rattle.std.specs.Prelude.{ℕ, cond, List, Some, None, Ok, Err, Option, Result, ◌==◌}
use Rattle.records.specs.declared.faults.RecordFault.{RecordFault}
use Rattle.records.specs.declared.frames.Kind.TheVariants as kind
use Rattle.records.specs.Encoding.{kind_number}
use Rattle.records.specs.Frames.{Frame, frame_of}
use Rattle.records.specs.Fields.{View, Field, and_then, give}
use Rattle.records.specs.Bodies.{name_text, dependency_field, values_field}
use Rattle.records.specs.Graphs.{Feature, Declaration, dependency, feature}

-- a feature whose name was found new before
abbrev pub feature_again : Field Feature
feature_again = and_then name_text (λ name. and_then values_field (λ values. give (record { name = name; values = values })))

-- what could not be read, which does not happen in a graph that was accepted, is none
abbrev pub or_none : {A : Type 0} → (A → Declaration) → Result (A × View) RecordFault → Option Declaration
or_none f (Ok p) = Some (f p.0)
or_none f (Err e) = None

abbrev pub declaration_as : Result Frame RecordFault → Option Declaration
declaration_as (Ok f) =
    cond (f.kind == kind_number kind.Dependency) (or_none dependency (dependency_field (record { left = f.body; place = 6 })))
    (cond (f.kind == kind_number kind.Feature) (or_none feature (feature_again (record { left = f.body; place = 6 })))
    None)
declaration_as (Err e) = None

abbrev pub declaration_in : List ℕ → Option Declaration
declaration_in bs = declaration_as (frame_of bs)
