-- Numbers as bytes, and bytes that fit.
use Rattle.std.proofs.Common.{◌≡◌, ℕ, ◌+◌, ◌*◌, ◌/◌, ◌%◌, ◌<◌, List, [], ◌∷◌, ◌++◌, Ok, Err, Result, arith}
use Rattle.records.specs.Encoding.{two, four, Bytes}

-- of `Ok` and `Err`, of which the library has none; of options it has `none-some` and `same_Some`
pub not-both : {X Y : Type 0} {x : X} {y : Y} → ◌≡◌ {A = Result X Y} (Err y) (Ok x) → ⊥
not-both e = let z : ◌≡◌ {A = ℕ} 0 1 = cc in omega arith

pub in-ok : {X Y : Type 0} (x y : X) → ◌≡◌ {A = Result X Y} (Ok x) (Ok y) → x ≡ y
in-ok x y e = cc

pub in-err : {X Y : Type 0} (x y : Y) → ◌≡◌ {A = Result X Y} (Err x) (Err y) → x ≡ y
in-err x y e = cc

-- numbers put together again, which other files go on from
pub two-value : (x : ℕ) → x % 256 + x / 256 * 256 ≡ x
two-value x = omega arith

pub four-value : (x : ℕ) → x % 256 + (x / 256) % 256 * 256 + (x / 65536) % 256 * 65536 + x / 16777216 * 16777216 ≡ x
four-value x = omega arith

pub two_is : (x a b : ℕ) → x ≡ a + b * 256 → a < 256 → two x ≡ a ∷ b ∷ []
two_is x a b e l =
    let p : x % 256 ≡ a = omega arith in
    let q : x / 256 ≡ b = omega arith in
    (λ i. p i ∷ q i ∷ [])

pub four_is : (x a b c d : ℕ) → x ≡ a + b * 256 + c * 65536 + d * 16777216 → a < 256 → b < 256 → c < 256 → four x ≡ a ∷ b ∷ c ∷ d ∷ []
four_is x a b c d e la lb lc =
    let p : x % 256 ≡ a = omega arith in
    let q : (x / 256) % 256 ≡ b = omega arith in
    let r : (x / 65536) % 256 ≡ c = omega arith in
    let s : x / 16777216 ≡ d = omega arith in
    (λ i. p i ∷ q i ∷ r i ∷ s i ∷ [])

pub bytes-split : (xs ys : List ℕ) → Bytes (xs ++ ys) → Bytes xs × Bytes ys
bytes-split [] ys b = (tt, b)
bytes-split (x ∷ xs) ys b = let r = bytes-split xs ys b.1 in ((b.0, r.0), r.1)
