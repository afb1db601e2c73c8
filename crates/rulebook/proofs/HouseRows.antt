-- The rows of a house book, cut from its words.
use Rattle.std.proofs.Common.{◌≡◌, ℕ, zero, suc, ◌+◌, ◌*◌, ◌/◌, ◌<◌, List, [], length, get_or, take, drop, refl, ap, ◌∙◌, arith}
use Rattle.std.proofs.lemmas.List.{drop-drop, get_or-take, length-take}
use Rattle.std.specs.Simd.{first_chunks}

chunk_at : (n : ℕ) (xs : List ℕ) (r : ℕ) → r < n → get_or (first_chunks 3 n xs) r [] ≡ take 3 (drop (3 * r) xs)
chunk_at zero xs r l = absurd (omega arith)
chunk_at (suc n) xs zero l = refl
chunk_at (suc n) xs (suc r) l =
    let z : 3 + 3 * r ≡ 3 * suc r = omega arith in
    chunk_at n (drop 3 xs) r (omega arith) ∙ ap (take 3) (drop-drop (3 * r) 3 xs ∙ ap (λ k. drop k xs) z)

pub row_cut : (m : ℕ) (xs : List ℕ) (ys : List (List ℕ)) → ys ≡ first_chunks 3 (length xs / 3) xs → length ys ≡ length xs / 3 →
    (r : ℕ) → r < length (take m ys) → get_or (take m ys) r [] ≡ take 3 (drop (3 * r) xs)
row_cut m xs ys e n r h =
    let t = length-take m ys in
    get_or-take m ys r [] (omega (arith, t)) ∙ ap (λ zs. get_or zs r []) e ∙ chunk_at (length xs / 3) xs r (omega (arith, t))
