-- The reading of records, one by one.
use Rattle.std.proofs.Common.{◌≡◌, ℕ, zero, suc, ◌+◌, ◌*◌, ◌<◌, ◌≤◌, Bool, true, false, cond, ltb, List, [], ◌∷◌, length, take, drop, Ok, Err, Result, sym, refl, ap, ◌∙◌, arith}
use Rattle.std.proofs.lemmas.List.{length-take-le, length-drop}
use Rattle.std.proofs.lemmas.Bool.{ltb-false}
use Rattle.records.specs.declared.faults.RecordFault.{RecordFault}
use Rattle.records.specs.declared.faults.RecordFault.TheVariants.{Cut}
use Rattle.records.specs.Frames.{Frame, inside, of_length, frame_of}
use Rattle.records.proofs.Numbers.{not-both, in-ok}
use Rattle.graph.specs.Reading.{Cursor, Content, content_of, ReadRecord, with_content, with_frame, cursor_after, Reading, with_record, after_record, scan_one, scan_at_most, scan}

inside-size : (xs after : List ℕ) (f : Frame) → inside xs after ≡ Ok f → (length f.body + 2 ≡ length xs) × (f.after ≡ after)
inside-size [] after f e = absurd (not-both e)
inside-size (a ∷ []) after f e = absurd (not-both e)
inside-size (a ∷ b ∷ xs) after f e =
    let q : f ≡ record { kind = a + b * 256; body = xs; after = after } = sym (in-ok (record { kind = a + b * 256; body = xs; after = after }) f e) in
    (omega (arith, ap (λ g. length g.body) q), ap (λ g. g.after) q)

length-shorter : (n : ℕ) (bs : List ℕ) (f : Frame) → of_length n bs ≡ Ok f → (f.after ≡ drop (length f.body + 2) bs) × (length f.body + 2 ≤ length bs)
length-shorter n bs f e = go (ltb (length bs) n) refl e
  where
    go : (t : Bool) → ltb (length bs) n ≡ t → cond t (Err Cut) (inside (take n bs) (drop n bs)) ≡ Ok f → (f.after ≡ drop (length f.body + 2) bs) × (length f.body + 2 ≤ length bs)
    go true q h = absurd (not-both h)
    go false q h =
        let p = inside-size (take n bs) (drop n bs) f h in
        let k : n ≤ length bs = ltb-false (length bs) n q in
        let m : length f.body + 2 ≡ n = p.0 ∙ length-take-le n bs k in
        (p.1 ∙ ap (λ j. drop j bs) (sym m), omega arith)

-- a record is cut off the front, so fewer bytes follow it
pub frame-shorter : (bs : List ℕ) (f : Frame) → frame_of bs ≡ Ok f → (f.after ≡ drop (length f.body + 6) bs) × (length f.body + 6 ≤ length bs)
frame-shorter [] f e = absurd (not-both e)
frame-shorter (a ∷ []) f e = absurd (not-both e)
frame-shorter (a ∷ b ∷ []) f e = absurd (not-both e)
frame-shorter (a ∷ b ∷ c ∷ []) f e = absurd (not-both e)
frame-shorter (a ∷ b ∷ c ∷ d ∷ bs) f e =
    let p = length-shorter (a + b * 256 + c * 65536 + d * 16777216) bs f e in
    let z : length f.body + 6 ≡ suc (suc (suc (suc (length f.body + 2)))) = omega arith in
    (p.0 ∙ ap (λ n. drop n (a ∷ b ∷ c ∷ d ∷ bs)) (sym z), omega (arith, p.1))

pub frame-length : (bs : List ℕ) (f : Frame) → frame_of bs ≡ Ok f → length f.body + 6 + length f.after ≡ length bs
frame-length bs f e =
    let p = frame-shorter bs f e in
    omega (arith, p.1, ap length p.0, length-drop (length f.body + 6) bs)

-- two ways to go on that agree on fewer bytes
one_same : (k m : Cursor → List ℕ → Reading) (st : Cursor) (bs : List ℕ) → ((u : Cursor) (cs : List ℕ) → length cs < length bs → k u cs ≡ m u cs) → scan_one k st bs ≡ scan_one m st bs
one_same k m st bs same = go (frame_of bs) refl
  where
    inner : (f : Frame) → length f.after < length bs → (r : Result Content RecordFault) → after_record st k (with_content st f r) ≡ after_record st m (with_content st f r)
    inner f l (Ok c) =
        let x : ReadRecord = record { content = c; frame = f } in
        ap (with_record st x c) (same (cursor_after st x) f.after l)
    inner f l (Err e) = refl

    go : (r : Result Frame RecordFault) → frame_of bs ≡ r → after_record st k (with_frame st r) ≡ after_record st m (with_frame st r)
    go (Ok f) e = inner f (omega (arith, frame-length bs f e)) (content_of st f)
    go (Err x) e = refl

-- any limit above the number of bytes reads the same
pub at-most-same : (m n : ℕ) (st : Cursor) (bs : List ℕ) → length bs < m → length bs < n → scan_at_most m st bs ≡ scan_at_most n st bs
unfolding scan_at_most
at-most-same zero n st bs l k = absurd (omega arith)
at-most-same (suc m) zero st bs l k = absurd (omega arith)
at-most-same (suc m) (suc n) st bs l k = one_same (scan_at_most m) (scan_at_most n) st bs (λ u cs s. at-most-same m n u cs (omega arith) (omega arith))

-- one record, and then the rest
pub scan-open : (st : Cursor) (bs : List ℕ) → scan st bs ≡ scan_one scan st bs
unfolding scan scan_at_most
scan-open st bs = one_same (scan_at_most (length bs)) scan st bs (λ u cs s. at-most-same (length bs) (suc (length cs)) u cs (omega arith) (omega arith))
