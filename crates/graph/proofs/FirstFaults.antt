-- Which faults the first reading finds, of records any but that something is unknown; and where the record at fault begins.
use Rattle.std.proofs.Common.{◌≡◌, ℕ, zero, suc, ◌+◌, ◌*◌, ◌-◌, Bool, true, false, cond, eqb, leb, ltb, List, [], ◌∷◌, ◌++◌, length, take, drop, Some, None, Ok, Err, Option, Result, sym, refl, ap, ◌∙◌, subst, arith}
use Rattle.std.proofs.lemmas.List.{length-append, append_assoc}
use Rattle.std.specs.List.{flat_map}
use Rattle.records.specs.Encoding.{record_bytes, Bytes}
use Rattle.records.proofs.Numbers.{not-both, in-err, bytes-split}
use Rattle.records.proofs.Framing.{frame-says}
use Rattle.records.specs.declared.faults.InField.{InField}
use Rattle.records.specs.declared.faults.RecordFault.{RecordFault}
use Rattle.records.specs.declared.faults.RecordFault.TheVariants.{Cut, Stray, Ragged, Mark, Text, Twice, Unknown, Many}
use Rattle.records.specs.declared.frames.Kind.{Kind}
use Rattle.records.specs.declared.frames.Kind.TheVariants as kind
use Rattle.records.specs.Frames.{Frame, frame_of, of_length, inside}
use Rattle.lanes.specs.EdgeKinds.{edge_kind_at}
use Rattle.records.specs.Fields.{View, Field, on_ok, and_then, byte_of, byte_field, word_of, word_field, string_of, string_field, or_text, name_from, name_field, form_from, form_field, switch_at, switch_field, or_mark, edge_at, edge_field, end_of, end_field, version_at, header_field}
use Rattle.records.specs.Bodies.{many, name_text, form_text, names_field, forms_field, values_field, package_field, dependency_field}
use Rattle.graph.specs.declared.faults.InRecord.{InRecord}
use Rattle.graph.specs.declared.faults.FileFault.{FileFault}
use Rattle.graph.specs.declared.faults.FileFault.TheVariants.{Record, Size, Rows, Memory}
use Rattle.graph.specs.OpeningLaw.{Behind}
use Rattle.graph.specs.Keys.{Key, has_key}
use Rattle.graph.specs.Limits.{max_packages, max_dependencies, max_features}
use Rattle.graph.specs.Reading.{Content, header, package_head, declaration, end, Cursor, ReadRecord, Rest, Reading, first_cursor, kind_here, as_content, new_name, feature_field, content_as, content_of, with_content, with_frame, record_at, cursor_after, on_rest, with_record, after_record, scan_one, scan_at_most, scan}

-- a fault of a record that the first reading may find
abbrev pub Early : RecordFault → Type 0
Early Cut = Unit {0}
Early Stray = Unit {0}
Early (Ragged k) = Unit {0}
Early (Mark k) = Unit {0}
Early (Text e) = Unit {0}
Early (Twice k) = Unit {0}
Early (Unknown k) = ⊥
Early Many = Unit {0}

-- an answer that is no other fault
abbrev pub Fine : {A : Type 0} → Result A RecordFault → Type 0
Fine (Ok a) = Unit {0}
Fine (Err e) = Early e

abbrev FineField : {A : Type 0} → Field A → Type 0
FineField m = (v : View) → Fine (m v)

fine-cond : {A : Type 0} (b : Bool) (x y : Result A RecordFault) → Fine x → Fine y → Fine (cond b x y)
fine-cond true x y h k = h
fine-cond false x y h k = k

fine-then : {A B : Type 0} (m : Field A) (f : A → Field B) → FineField m → ((a : A) → FineField (f a)) → FineField (and_then m f)
fine-then {A = A} m f h k v = go (m v) (h v)
  where
    go : (r : Result (A × View) RecordFault) → Fine r → Fine (on_ok r f)
    go (Ok p) q = k p.0 p.1
    go (Err e) q = q

-- the fields of records
fine_byte : (bs : List ℕ) (at : ℕ) → Fine (byte_of bs at)
fine_byte [] at = tt
fine_byte (b ∷ bs) at = tt

fine_word : (bs : List ℕ) (at : ℕ) → Fine (word_of bs at)
fine_word [] at = tt
fine_word (a ∷ []) at = tt
fine_word (a ∷ b ∷ bs) at = tt

fine-string : (bs : List ℕ) (at : ℕ) → Fine (string_of bs at)
fine-string [] at = tt
fine-string (n ∷ bs) at = fine-cond (ltb (length bs) n) _ _ tt tt

fine_text : {A : Type 0} (r : Result A InField) → FineField (or_text r)
fine_text (Ok a) v = tt
fine_text (Err e) v = tt

fine_closed : (bs : List ℕ) (at : ℕ) → Fine (end_of bs at)
fine_closed [] at = tt
fine_closed (b ∷ bs) at = tt

fine-switch : FineField switch_field
fine-switch v = fine-then byte_field (switch_at v.place) (λ w. fine_byte w.left w.place) (λ b w. fine-cond (eqb b 0) _ _ tt (fine-cond (eqb b 1) _ _ tt tt)) v

fine-or_mark : {A : Type 0} (at : ℕ) (o : Option A) (v : View) → Fine (or_mark at o v)
fine-or_mark at (Some a) v = tt
fine-or_mark at None v = tt

fine-edge : FineField edge_field
fine-edge v = fine-then byte_field (edge_at v.place) (λ w. fine_byte w.left w.place) (λ b w. fine-or_mark v.place (edge_kind_at b) w) v

fine-header : FineField header_field
fine-header v = fine-then word_field (version_at v.place) (λ w. fine_word w.left w.place) (λ x w. fine-cond (eqb x 1) _ _ (fine_closed w.left w.place) tt) v

fine-name : FineField name_field
fine-name = fine-then string_field (λ p. or_text (name_from p)) (λ v. fine-string v.left v.place) (λ p. fine_text (name_from p))

fine-form : FineField form_field
fine-form = fine-then string_field (λ p. or_text (form_from p)) (λ v. fine-string v.left v.place) (λ p. fine_text (form_from p))

fine-many : {A : Type 0} (m : Field A) → FineField m → (n : ℕ) → FineField (many m n)
fine-many m h zero v = tt
fine-many m h (suc n) v = fine-then m _ h (λ a. fine-then (many m n) _ (fine-many m h n) (λ more w. tt)) v

fine-name-text : FineField name_text
fine-name-text = fine-then name_field _ fine-name (λ p v. tt)

fine-values : FineField values_field
fine-values =
    fine-then forms_field _
    (fine-then byte_field _ (λ v. fine_byte v.left v.place) (fine-many form_text (fine-then form_field _ fine-form (λ f v. tt))))
    (λ values. fine-then end_field _ (λ v. fine_closed v.left v.place) (λ u v. tt))

fine-package : FineField package_field
fine-package =
    fine-then switch_field _ fine-switch (λ proc.
    fine-then name_text _ fine-name-text (λ name.
    fine-then end_field _ (λ v. fine_closed v.left v.place) (λ u v. tt)))

fine-dependency : FineField dependency_field
fine-dependency =
    fine-then word_field _ (λ v. fine_word v.left v.place) (λ to.
    fine-then edge_field _ fine-edge (λ edge.
    fine-then switch_field _ fine-switch (λ optional.
    fine-then switch_field _ fine-switch (λ defaults.
    fine-then name_text _ fine-name-text (λ name.
    fine-then names_field _ (fine-then byte_field _ (λ v. fine_byte v.left v.place) (fine-many name_text fine-name-text)) (λ asks.
    fine-then end_field _ (λ v. fine_closed v.left v.place) (λ u v. tt)))))))

fine-feature : (keys : List Key) (owner : ℕ) → FineField (feature_field keys owner)
fine-feature keys owner =
    fine-then name_field _ fine-name (λ name.
    fine-then (new_name keys owner name) _ (λ v. fine-cond (has_key owner name.text keys) _ _ tt tt) (λ u.
    fine-then values_field _ fine-values (λ values v. tt)))

-- a record
fine_content : {A : Type 0} (f : A → Content) (r : Result (A × View) RecordFault) → Fine r → Fine (as_content f r)
fine_content f (Ok p) h = tt
fine_content f (Err e) h = h

fine-as : (k : Option Kind) (st : Cursor) (v : View) → Fine (content_as k st v)
fine-as None st v = tt
fine-as (Some kind.Header) st v = fine_content _ _ (fine-header v)
fine-as (Some kind.Package) st v = fine-cond (leb max_packages st.packages) _ _ tt (fine_content _ _ (fine-package v))
fine-as (Some kind.Dependency) st v = fine-cond (leb max_dependencies st.dependencies) _ _ tt (fine_content _ _ (fine-dependency v))
fine-as (Some kind.Feature) st v = fine-cond (leb max_features (length st.keys)) _ _ tt (fine_content _ _ (fine-feature st.keys (st.packages - 1) v))
fine-as (Some kind.End) st v = fine_content _ _ (fine_closed v.left v.place)

fine_inside : (bs after : List ℕ) → Fine (inside bs after)
fine_inside [] after = tt
fine_inside (a ∷ []) after = tt
fine_inside (a ∷ b ∷ body) after = tt

fine-length : (n : ℕ) (bs : List ℕ) → Fine (of_length n bs)
fine-length n bs = fine-cond (ltb (length bs) n) (Err Cut) (inside (take n bs) (drop n bs)) tt (fine_inside (take n bs) (drop n bs))

fine-frame : (bs : List ℕ) → Fine (frame_of bs)
fine-frame [] = tt
fine-frame (a ∷ []) = tt
fine-frame (a ∷ b ∷ []) = tt
fine-frame (a ∷ b ∷ c ∷ []) = tt
fine-frame (a ∷ b ∷ c ∷ d ∷ bs) = fine-length (a + b * 256 + c * 65536 + d * 16777216) bs

-- a record with its number and start, and the whole reading
abbrev FineRecord : Result ReadRecord InRecord → Type 0
FineRecord (Ok x) = Unit {0}
FineRecord (Err e) = Early e.fault

fine_with : (st : Cursor) (f : Frame) (r : Result Content RecordFault) → Fine r → FineRecord (with_content st f r)
fine_with st f (Ok c) h = tt
fine_with st f (Err e) h = h

fine-record : (st : Cursor) (bs : List ℕ) → FineRecord (record_at st bs)
fine-record st bs = go (frame_of bs) (fine-frame bs)
  where
    go : (r : Result Frame RecordFault) → Fine r → FineRecord (with_frame st r)
    go (Ok f) h = fine_with st f (content_of st f) (fine-as (kind_here st.number st.packages f.kind) st (record { left = f.body; place = 6 }))
    go (Err e) h = h

abbrev pub FineFile : FileFault → Type 0
FineFile (Record x) = Early x.fault
FineFile Size = ⊥
FineFile Rows = ⊥
FineFile Memory = ⊥

abbrev FineReading : Reading → Type 0
FineReading (Ok p) = Unit {0}
FineReading (Err e) = FineFile e

fine-rest : (F : Rest → Rest) (r : Reading) → FineReading r → FineReading (on_rest F r)
fine-rest F (Ok p) h = tt
fine-rest F (Err e) h = h

fine-carried : (st : Cursor) (x : ReadRecord) (c : Content) (r : Reading) → FineReading r → FineReading (with_record st x c r)
fine-carried st x header r h = h
fine-carried st x (package_head y) r h = fine-rest _ r h
fine-carried st x (declaration p) r h = fine-rest _ r h
fine-carried st x end r h = tt

fine-one : (k : Cursor → List ℕ → Reading) → ((st : Cursor) (bs : List ℕ) → FineReading (k st bs)) → (st : Cursor) (bs : List ℕ) → FineReading (scan_one k st bs)
fine-one k h st bs = go (record_at st bs) (fine-record st bs)
  where
    go : (r : Result ReadRecord InRecord) → FineRecord r → FineReading (after_record st k r)
    go (Ok x) q = fine-carried st x x.content (k (cursor_after st x) x.frame.after) (h (cursor_after st x) x.frame.after)
    go (Err e) q = q

fine-most : (n : ℕ) (st : Cursor) (bs : List ℕ) → FineReading (scan_at_most n st bs)
unfolding scan_at_most
fine-most zero st bs = tt
fine-most (suc n) st bs = fine-one (scan_at_most n) (fine-most n) st bs

fine-scan : (st : Cursor) (bs : List ℕ) → FineReading (scan st bs)
unfolding scan
fine-scan st bs = fine-most (suc (length bs)) st bs

pub first-faults : (st : Cursor) (bs : List ℕ) (e : FileFault) → scan st bs ≡ Err e → FineFile e
first-faults st bs e h = subst FineReading h (fine-scan st bs)

-- the record at fault begins behind those that were read before it
record Onward (st : Cursor) (bs : List ℕ) (number start : ℕ) : Type 0 where
  records : List (ℕ × List ℕ)
  rest : List ℕ
  bytes : bs ≡ flat_map (λ r. record_bytes r.0 r.1) records ++ rest
  number_is : number ≡ st.number + length records
  start_is : start ≡ st.start + length (flat_map (λ r. record_bytes r.0 r.1) records)

abbrev OnwardAt : Cursor → List ℕ → InRecord → Type 0
OnwardAt st bs x = Onward st bs x.number x.start

stays : (st : Cursor) (bs : List ℕ) → Onward st bs st.number st.start
stays st bs = record { records = []; rest = bs; bytes = refl; number_is = omega arith; start_is = omega arith }

-- one record more in front
behind-one : (st : Cursor) (c : Content) (bs : List ℕ) (f : Frame) (number start : ℕ) → bs ≡ record_bytes f.kind f.body ++ f.after → Onward (cursor_after st (record { content = c; frame = f })) f.after number start → Onward st bs number start
behind-one st c bs f number start e o =
    let own : List ℕ = record_bytes f.kind f.body in
    let more : List ℕ = flat_map (λ r. record_bytes r.0 r.1) o.records in
    let size : length own ≡ length f.body + 6 = omega arith in
    record {
      records = (f.kind, f.body) ∷ o.records;
      rest = o.rest;
      bytes = e ∙ ap (λ z. own ++ z) o.bytes ∙ sym (append_assoc own more o.rest);
      number_is = omega (arith, o.number_is);
      start_is = omega (arith, o.start_is, size, length-append own more);
    }

rest-refused : (F : Rest → Rest) (r : Reading) (x : InRecord) → on_rest F r ≡ Err (Record x) → r ≡ Err (Record x)
rest-refused F (Ok p) x e = absurd (not-both (sym e))
rest-refused F (Err y) x e = ap (λ z. Err z) (in-err _ _ e)

carried-refused : (st : Cursor) (f : ReadRecord) (c : Content) (r : Reading) (x : InRecord) → with_record st f c r ≡ Err (Record x) → r ≡ Err (Record x)
carried-refused st f header r x e = e
carried-refused st f (package_head y) r x e = rest-refused _ r x e
carried-refused st f (declaration p) r x e = rest-refused _ r x e
carried-refused st f end r x e = absurd (not-both (sym e))

of_record : (x y : InRecord) → ◌≡◌ {A = Reading} (Err (Record x)) (Err (Record y)) → x ≡ y
of_record x y e = cc

module _ (k : Cursor → List ℕ → Reading) (ih : (st : Cursor) (bs : List ℕ) (x : InRecord) → Bytes bs → k st bs ≡ Err (Record x) → OnwardAt st bs x) (st : Cursor) (bs : List ℕ) (x : InRecord) (fit : Bytes bs) where
  by_frame : (f : Frame) → frame_of bs ≡ Ok f → (r : Result Content RecordFault) → after_record st k (with_content st f r) ≡ Err (Record x) → OnwardAt st bs x
  by_frame f q (Err e) h = subst (OnwardAt st bs) (of_record _ _ h) (stays st bs)
  by_frame f q (Ok c) h =
      let says = frame-says bs f fit q in
      let y : ReadRecord = record { content = c; frame = f } in
      behind-one st c bs f x.number x.start says (ih (cursor_after st y) f.after x (bytes-split (record_bytes f.kind f.body) f.after (subst Bytes says fit)).1 (carried-refused st y c _ x h))

  behind-record : after_record st k (record_at st bs) ≡ Err (Record x) → OnwardAt st bs x
  behind-record h = go (frame_of bs) refl h
    where
      go : (r : Result Frame RecordFault) → frame_of bs ≡ r → after_record st k (with_frame st r) ≡ Err (Record x) → OnwardAt st bs x
      go (Ok f) q e = by_frame f q (content_of st f) e
      go (Err y) q e = subst (OnwardAt st bs) (of_record _ _ e) (stays st bs)

behind-most : (n : ℕ) (st : Cursor) (bs : List ℕ) (x : InRecord) → Bytes bs → scan_at_most n st bs ≡ Err (Record x) → OnwardAt st bs x
unfolding scan_at_most
behind-most zero st bs x fit e = subst (OnwardAt st bs) (of_record _ _ e) (stays st bs)
behind-most (suc n) st bs x fit e = behind-record (scan_at_most n) (behind-most n) st bs x fit e

behind-scan : (st : Cursor) (bs : List ℕ) (x : InRecord) → Bytes bs → scan st bs ≡ Err (Record x) → OnwardAt st bs x
unfolding scan
behind-scan st bs x fit e = behind-most (suc (length bs)) st bs x fit e

pub first-behind : (file : List ℕ) (x : InRecord) → Bytes file → scan first_cursor file ≡ Err (Record x) → Behind file x.number x.start
first-behind file x fit e =
    let o = behind-scan first_cursor file x fit e in
    record { records = o.records; rest = o.rest; bytes = o.bytes; number_is = omega (arith, o.number_is); start_is = omega (arith, o.start_is) }
