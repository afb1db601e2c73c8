-- A call of an iterator that gives the first of what is left.
use Rattle.std.proofs.Common.{◌≡◌, Bool, true, false, is_some, List, [], ◌∷◌, length, Some, None, Option, MatchOption, sym, ap, ◌∙◌, arith, option_map}
use Rattle.std.proofs.lemmas.Option.{none-some, same_Some}
use Rattle.std.specs.Iterator.{MakesProgress, item_count}

-- what `YieldsFirstBy` says of the lists before and after
pub gives-first : {A B : Type 0} (view : A → B) (before after : List B) (y : B) → before ≡ y ∷ after → (r : Option A) → option_map view r ≡ Some y → MatchOption r ((before ≡ []) × (after ≡ [])) (λ x. before ≡ view x ∷ after)
gives-first view before after y left None e = absurd (none-some y e)
gives-first view before after y left (Some x) e = left ∙ ap (λ z. z ∷ after) (sym (same_Some (view x) y e))

module _ {S A B : Type 0} (rest : S → List B) (s t : S) (y : B) (left : rest s ≡ y ∷ rest t) where
  pub goes-nearer : (r : Option A) → MakesProgress (λ _. Unit {0}) (item_count rest) s r t
  goes-nearer None = record { on = λ _. tt; keeps = tt; rests = λ f. f }
  goes-nearer (Some x) = record { on = λ f. (tt, f, omega (arith, ap length left)); keeps = tt; rests = λ _. tt }

-- whether anything is left
abbrev pub any_left : {A : Type 0} → List A → Bool
any_left [] = false
any_left (x ∷ xs) = true

pub any-given : {A B : Type 0} (view : A → B) (before after : List B) (r : Option A) → MatchOption r ((before ≡ []) × (after ≡ [])) (λ x. before ≡ view x ∷ after) → is_some r ≡ any_left before
any-given view before after None e = sym (ap any_left e.0)
any-given view before after (Some x) e = sym (ap any_left e)
