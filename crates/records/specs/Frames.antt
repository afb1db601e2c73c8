-- Bytes cut into records: length (4 bytes), kind (2 bytes), body; the length counts kind and body.
use Rattle.std.specs.Prelude.{ℕ, ◌+◌, ◌*◌, if◌then◌else◌, List, [], ◌∷◌, length, take, drop, Ok, Err, Option, Result, ◌==◌, nat_lt}
use Rattle.std.specs.List.{find}
use Rattle.records.specs.Encoding.{kind_number}
use Rattle.records.specs.declared.faults.RecordFault.{RecordFault}
use Rattle.records.specs.declared.faults.RecordFault.TheVariants.{Cut, Ragged}
use Rattle.records.specs.declared.frames.Frame as code
use Rattle.records.specs.declared.frames.Kind.{Kind}
use Rattle.records.specs.declared.frames.Kind.TheVariants.{Header, Package, Dependency, Feature, End}

-- every kind
abbrev pub all_kinds : List Kind
all_kinds = Header ∷ Package ∷ Dependency ∷ Feature ∷ End ∷ []

-- the kind of a number, if it has one
abbrev pub kind_at : ℕ → Option Kind
kind_at n = find (λ kind. n == kind_number kind) all_kinds

-- a record's kind, its body, and the bytes after it
pub record Frame : Type 0 where
  pub kind : ℕ
  pub body : List ℕ
  pub after : List ℕ

abbrev pub frame : code.Frame → Frame
frame f = record { kind = f.kind; body = f.body.now; after = f.after.now }

-- what stands inside the length holds the kind at least
abbrev pub inside : List ℕ → List ℕ → Result Frame RecordFault
inside [] after = Err (Ragged 0)
inside (a ∷ []) after = Err (Ragged 0)
inside (a ∷ b ∷ body) after = Ok (record { kind = a + b * 256; body = body; after = after })

abbrev pub of_length : ℕ → List ℕ → Result Frame RecordFault
of_length n bs = if nat_lt (length bs) n then Err Cut else inside (take n bs) (drop n bs)

-- the record at the front
abbrev pub frame_of : List ℕ → Result Frame RecordFault
frame_of [] = Err Cut
frame_of (a ∷ []) = Err Cut
frame_of (a ∷ b ∷ []) = Err Cut
frame_of (a ∷ b ∷ c ∷ []) = Err Cut
frame_of (a ∷ b ∷ c ∷ d ∷ bs) = of_length (a + b * 256 + c * 65536 + d * 16777216) bs
