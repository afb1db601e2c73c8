-- The record at the front of the bytes, as the code cuts it.
use Rattle.std.proofs.Common.{◌≡◌, ℕ, ◌+◌, ◌*◌, ◌<◌, ◌≤◌, List, [], ◌∷◌, length, take, drop, Ok, Err, Result, sym, ap, ◌∙◌, arith}
use Rattle.std.proofs.lemmas.Bool.{cond-false, le-ltb}
use Rattle.std.proofs.lemmas.Grind.{common_steps}
use Rattle.std.specs.Int.{w16, w32, from_le_bytes}
use Rattle.records.specs.declared.faults.RecordFault.{RecordFault}
use Rattle.records.specs.declared.faults.RecordFault.TheVariants.{Ragged}
use Rattle.records.specs.Frames.{Frame, inside, of_length, frame_of}

pub inside-ends : (xs after : List ℕ) → length xs < 2 → ◌≡◌ {A = Result Frame RecordFault} (Err (Ragged 0)) (inside xs after)
inside-ends xs after l = grind (arith, common_steps)

pub inside-goes : (xs after : List ℕ) → 2 ≤ length xs → ◌≡◌ {A = Result Frame RecordFault} (Ok (record { kind = from_le_bytes w16 (take 2 xs); body = drop 2 xs; after = after })) (inside xs after)
inside-goes xs after l = grind (arith, common_steps)

pub frame-goes : (bs : List ℕ) (r : Result Frame RecordFault) → 4 ≤ length bs → from_le_bytes w32 (take 4 bs) ≤ length (drop 4 bs) → r ≡ inside (take (from_le_bytes w32 (take 4 bs)) (drop 4 bs)) (drop (from_le_bytes w32 (take 4 bs)) (drop 4 bs)) → r ≡ frame_of bs
frame-goes [] r l m h = absurd (omega arith)
frame-goes (a ∷ []) r l m h = absurd (omega arith)
frame-goes (a ∷ b ∷ []) r l m h = absurd (omega arith)
frame-goes (a ∷ b ∷ c ∷ []) r l m h = absurd (omega arith)
frame-goes (a ∷ b ∷ c ∷ d ∷ bs) r l m h =
    let n : ℕ = from_le_bytes w32 (a ∷ b ∷ c ∷ d ∷ []) in
    let e : n ≡ a + b * 256 + c * 65536 + d * 16777216 = omega arith in
    h ∙ sym (cond-false _ _ _ (le-ltb (length bs) n m)) ∙ ap (λ x. of_length x bs) e
