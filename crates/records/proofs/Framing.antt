-- A record's bytes are read as its kind and body.
use Rattle.std.proofs.Common.{◌≡◌, ℕ, ◌+◌, ◌*◌, ◌≤◌, Bool, true, false, cond, ltb, List, [], ◌∷◌, ◌++◌, length, take, drop, Ok, Err, sym, refl, ap, ◌∙◌, subst, arith}
use Rattle.std.proofs.lemmas.List.{length-append, take-append-drop, length-take-le, take_at, drop_at}
use Rattle.std.proofs.lemmas.Bool.{cond-false, le-ltb, ltb-false}
use Rattle.records.specs.declared.faults.RecordFault.TheVariants.{Cut}
use Rattle.records.specs.Frames.{Frame, inside, of_length, frame_of}
use Rattle.records.specs.Encoding.{two, four, record_bytes, Bytes}
use Rattle.records.proofs.Numbers.{not-both, in-ok, two_is, two-value, four_is, four-value, bytes-split}

inside-says : (xs after : List ℕ) (f : Frame) → Bytes xs → inside xs after ≡ Ok f → (xs ≡ two f.kind ++ f.body) × (after ≡ f.after)
inside-says [] after f b e = absurd (not-both e)
inside-says (x ∷ []) after f b e = absurd (not-both e)
inside-says (x ∷ y ∷ xs) after f b e =
    let q = in-ok (record { kind = x + y * 256; body = xs; after = after }) f e in
    let k : two (x + y * 256) ≡ x ∷ y ∷ [] = two_is (x + y * 256) x y refl b.0 in
    (ap (λ z. z ++ xs) (sym k) ∙ ap (λ g. two g.kind ++ g.body) q, ap (λ g. g.after) q)

long-says : (n : ℕ) (bs : List ℕ) (f : Frame) → Bytes bs → of_length n bs ≡ Ok f → (n ≡ length f.body + 2) × (bs ≡ (two f.kind ++ f.body) ++ f.after)
long-says n bs f b e = go (ltb (length bs) n) refl e
  where
    go : (t : Bool) → ltb (length bs) n ≡ t → cond t (Err Cut) (inside (take n bs) (drop n bs)) ≡ Ok f → (n ≡ length f.body + 2) × (bs ≡ (two f.kind ++ f.body) ++ f.after)
    go true q h = absurd (not-both h)
    go false q h =
        let k : n ≤ length bs = ltb-false (length bs) n q in
        let all : take n bs ++ drop n bs ≡ bs = take-append-drop n bs in
        let p = inside-says (take n bs) (drop n bs) f (bytes-split (take n bs) (drop n bs) (subst Bytes (sym all) b)).0 h in
        let m : n ≡ length f.body + 2 = omega (arith, ap length p.0, length-take-le n bs k, length-append (two f.kind) f.body) in
        (m, sym all ∙ (λ i. p.0 i ++ p.1 i))

-- the bytes of the record that was found
pub frame-says : (bs : List ℕ) (f : Frame) → Bytes bs → frame_of bs ≡ Ok f → bs ≡ record_bytes f.kind f.body ++ f.after
frame-says [] f b e = absurd (not-both e)
frame-says (p ∷ []) f b e = absurd (not-both e)
frame-says (p ∷ q ∷ []) f b e = absurd (not-both e)
frame-says (p ∷ q ∷ r ∷ []) f b e = absurd (not-both e)
frame-says (p ∷ q ∷ r ∷ t ∷ bs) f b e =
    let l = long-says (p + q * 256 + r * 65536 + t * 16777216) bs f b.1.1.1.1 e in
    let k : four (length f.body + 2) ≡ p ∷ q ∷ r ∷ t ∷ [] = four_is (length f.body + 2) p q r t (sym l.0) b.0 b.1.0 b.1.1.0 in
    ap (λ z. p ∷ q ∷ r ∷ t ∷ z) l.1 ∙ ap (λ z. z ++ ((two f.kind ++ f.body) ++ f.after)) (sym k)

-- a record's bytes, whatever follows, are found as that record
pub frame-reads : (kind : ℕ) (body rest : List ℕ) → frame_of (record_bytes kind body ++ rest) ≡ Ok (record { kind = kind; body = body; after = rest })
frame-reads kind body rest =
    let xs : List ℕ = two kind ++ body in
    let n : ℕ = length body + 2 in
    let len : length xs ≡ n = omega arith in
    let m : n ≤ length (xs ++ rest) = omega (arith, length-append xs rest) in
    ap (λ x. of_length x (xs ++ rest)) (four-value n)
    ∙ cond-false _ _ _ (le-ltb (length (xs ++ rest)) n m)
    ∙ (λ i. inside (take_at xs rest n len i) (drop_at xs rest n len i))
    ∙ ap (λ k. Ok (record { kind = k; body = body; after = rest })) (two-value kind)
