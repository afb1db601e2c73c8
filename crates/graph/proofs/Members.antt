-- The elements of a list: by recursion, as the cases of a rule take them apart, and as the library's `Contains`.
use Rattle.std.proofs.Common.{◌≡◌, zero, suc, ◌⊎◌, List, [], ◌∷◌, sym, inl, inr, arith}
use Rattle.std.specs.List.{Contains}

-- x is one of these
abbrev pub In : {A : Type 0} → A → List A → Type 0
In x [] = ⊥
In x (y ∷ ys) = (x ≡ y) ⊎ In x ys

pub contains-in : {A : Type 0} (x : A) (xs : List A) → Contains xs x → In x xs
contains-in x [] (k, l, e) = absurd (omega (arith, l))
contains-in x (y ∷ ys) (zero, l, e) = inl (sym e)
contains-in x (y ∷ ys) (suc k, l, e) = inr (contains-in x ys (k, omega (arith, l), e))

pub in-contains : {A : Type 0} (x : A) (xs : List A) → In x xs → Contains xs x
in-contains x [] h = absurd h
in-contains x (y ∷ ys) (inl e) = (0, omega arith, sym e)
in-contains x (y ∷ ys) (inr m) = let (k, l, e) = in-contains x ys m in (suc k, omega (arith, l), e)
