-- A loop that writes what each record gives over the front of a list.
use Rattle.std.proofs.Common.{◌≡◌, ℕ, zero, suc, ◌+◌, ◌<◌, ◌≤◌, List, [], ◌∷◌, ◌++◌, map, length, get_or, take, drop, set, refl, ap, ◌∙◌, arith}

written-at : {X : Type 0} (f : X → ℕ) (d : X) (xs : List X) (ys : List ℕ) (i : ℕ) → i < length xs → length xs ≤ length ys → set (map f (take i xs) ++ drop i ys) i (f (get_or xs i d)) ≡ map f (take (suc i) xs) ++ drop (suc i) ys
written-at f d [] ys i below room = absurd (omega (arith, below))
written-at f d (x ∷ xs) [] i below room = absurd (omega (arith, room))
written-at f d (x ∷ xs) (y ∷ ys) zero below room = refl
written-at f d (x ∷ xs) (y ∷ ys) (suc i) below room = ap (λ l. f x ∷ l) (written-at f d xs ys i (omega (arith, below)) (omega (arith, room)))

pub written-more : {X : Type 0} (f : X → ℕ) (d : X) (xs : List X) (ys : List ℕ) (i : ℕ) → i < length xs → length xs ≤ length ys → set (map f (take i xs) ++ drop i ys) i (f (get_or xs i d)) ≡ map f (take (i + 1) xs) ++ drop (i + 1) ys
written-more f d xs ys i below room =
    let e : suc i ≡ i + 1 = omega arith in
    written-at f d xs ys i below room ∙ ap (λ k. map f (take k xs) ++ drop k ys) e
