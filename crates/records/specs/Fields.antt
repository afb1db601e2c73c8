-- Reading fields, as functions of what is left of a record.
use Rattle.std.specs.Prelude.{ℕ, ◌+◌, ◌*◌, Bool, true, false, if◌then◌else◌, List, [], ◌∷◌, length, take, drop, Some, None, Ok, Err, Option, Result, ◌==◌, nat_lt}
use Rattle.text.specs.declared.faults.StringFault.{StringFault}
use Rattle.text.specs.declared.faults.StringFault.TheVariants.{NoForm}
use Rattle.text.specs.Forms.{Form, Piece}
use Rattle.text.specs.Readers.{read_name, read_form}
use Rattle.records.specs.Encoding.{version}
use Rattle.records.specs.declared.faults.InField.{InField}
use Rattle.records.specs.declared.faults.RecordFault.{RecordFault}
use Rattle.records.specs.declared.faults.RecordFault.TheVariants.{Ragged, Mark, Text}
use Rattle.records.specs.declared.reader.Reader.{Reader}
use Rattle.lanes.specs.declared.edge_kinds.EdgeKind.{EdgeKind}
use Rattle.lanes.specs.EdgeKinds.{edge_kind_at}

-- what is left of a record, and the place in it where that begins
pub record View : Type 0 where
  pub left : List ℕ
  pub place : ℕ

abbrev pub view : Reader → View
view r = record { left = r.rest.now; place = r.at }

-- a field answers a value and what it leaves, or is refused
abbrev pub Field : Type 0 → Type 0
Field A = View → Result (A × View) RecordFault

-- what a call answered, seen as something else, with what it left
abbrev pub outcome_by : {A B : Type 0} → (A → B) → Result A RecordFault → View → Result (B × View) RecordFault
outcome_by f (Ok a) v = Ok (f a, v)
outcome_by f (Err e) v = Err e

-- what a call answered, with what it left
abbrev pub outcome : {A : Type 0} → Result A RecordFault → View → Result (A × View) RecordFault
outcome (Ok a) v = Ok (a, v)
outcome (Err e) v = Err e

-- one field after another
abbrev pub on_ok : {A B : Type 0} → Result (A × View) RecordFault → (A → Field B) → Result (B × View) RecordFault
on_ok (Ok p) f = f p.0 p.1
on_ok (Err e) f = Err e

abbrev pub and_then : {A B : Type 0} → Field A → (A → Field B) → Field B
and_then m f v = on_ok (m v) f

abbrev pub give : {A : Type 0} → A → Field A
give a v = Ok (a, v)

-- so many bytes
abbrev pub bytes_of : ℕ → List ℕ → ℕ → Result (List ℕ × View) RecordFault
bytes_of n bs at =
    if nat_lt (length bs) n then Err (Ragged at)
    else Ok (take n bs, record { left = drop n bs; place = at + n })

abbrev pub bytes_field : ℕ → Field (List ℕ)
bytes_field n v = bytes_of n v.left v.place

-- one byte
abbrev pub byte_of : List ℕ → ℕ → Result (ℕ × View) RecordFault
byte_of [] at = Err (Ragged at)
byte_of (b ∷ bs) at = Ok (b, record { left = bs; place = at + 1 })

abbrev pub byte_field : Field ℕ
byte_field v = byte_of v.left v.place

-- two bytes, the lower one first
abbrev pub word_of : List ℕ → ℕ → Result (ℕ × View) RecordFault
word_of [] at = Err (Ragged at)
word_of (a ∷ []) at = Err (Ragged at)
word_of (a ∷ b ∷ bs) at = Ok (a + b * 256, record { left = bs; place = at + 2 })

abbrev pub word_field : Field ℕ
word_field v = word_of v.left v.place

-- a string: one length byte and that many bytes
abbrev pub string_of : List ℕ → ℕ → Result (Piece × View) RecordFault
string_of [] at = Err (Ragged at)
string_of (n ∷ bs) at =
    if nat_lt (length bs) n then Err (Ragged at)
    else Ok (
      record { place = at + 1; text = take n bs },
      record { left = drop n bs; place = (at + 1) + n },
    )

abbrev pub string_field : Field Piece
string_field v = string_of v.left v.place

-- a string's fault goes whole into the record's, with the string's place
abbrev pub in_field : {A B : Type 0} → ℕ → (A → B) → Result A StringFault → Result B InField
in_field at f (Ok a) = Ok (f a)
in_field at f (Err e) = Err (record { field = at; fault = e })

-- what was made of a string, or its fault as the record's
abbrev pub or_text : {A : Type 0} → Result A InField → Field A
or_text (Ok a) v = Ok (a, v)
or_text (Err e) v = Err (Text e)

-- a string of which a reading says what it is
abbrev pub text_field : {A : Type 0} → (Piece → Result A InField) → Field A
text_field read = and_then string_field (λ p. or_text (read p))

abbrev pub name_from : Piece → Result Piece InField
name_from p = in_field p.place (λ _. p) (read_name p.text)

abbrev pub name_field : Field Piece
name_field = text_field name_from

-- a feature string; the empty one has a test of its own
abbrev pub form_from : Piece → Result (Form Piece) InField
form_from p =
    if length p.text == 0 then Err (record { field = p.place; fault = NoForm 0 })
    else in_field p.place (λ f. f) (read_form p.text)

abbrev pub form_field : Field (Form Piece)
form_field = text_field form_from

-- a byte that is 0 or 1
abbrev pub switch_at : ℕ → ℕ → Field Bool
switch_at at b v = if b == 0 then Ok (false, v) else if b == 1 then Ok (true, v) else Err (Mark at)

abbrev pub switch_field : Field Bool
switch_field v = and_then byte_field (switch_at v.place) v

-- a value, unless the number that it was read from is out of range
abbrev pub or_mark : {A : Type 0} → ℕ → Option A → Field A
or_mark at (Some a) v = Ok (a, v)
or_mark at None v = Err (Mark at)

-- the number of an edge kind
abbrev pub edge_at : ℕ → ℕ → Field EdgeKind
edge_at at b = or_mark at (edge_kind_at b)

abbrev pub edge_field : Field EdgeKind
edge_field v = and_then byte_field (edge_at v.place) v

-- no byte is left over
abbrev pub end_of : List ℕ → ℕ → Result (Unit {0} × View) RecordFault
end_of [] at = Ok (tt, record { left = []; place = at })
end_of (b ∷ bs) at = Err (Ragged at)

abbrev pub end_field : Field (Unit {0})
end_field v = end_of v.left v.place

-- the body of a header record: the version
abbrev pub version_at : ℕ → ℕ → Field (Unit {0})
version_at at x v = if x == version then end_field v else Err (Mark at)

abbrev pub header_field : Field (Unit {0})
header_field v = and_then word_field (version_at v.place) v

-- a result with another value in the place of its own; a field whose value is dropped
abbrev pub with_value : {A B : Type 0} → B → Result (A × View) RecordFault → Result (B × View) RecordFault
with_value b (Ok p) = Ok (b, p.1)
with_value b (Err e) = Err e

abbrev pub void : {A : Type 0} → Field A → Field (Unit {0})
void m v = with_value tt (m v)
