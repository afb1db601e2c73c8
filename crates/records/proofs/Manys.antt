-- A loop over so many fields of one kind.
use Rattle.std.proofs.Common.{◌≡◌, ℕ, suc, ◌+◌, ◌-◌, ◌<◌, List, ◌∷◌, Ok, Err, Result, sym, refl, ap, ◌∙◌, arith}
use Rattle.records.specs.declared.faults.RecordFault.{RecordFault}
use Rattle.records.specs.Fields.{View, Field, on_ok, and_then, give, with_value, void}
use Rattle.records.specs.Bodies.{many}

-- one more, where only whether it is read matters
void-more : {A : Type 0} (m : Field A) (n : ℕ) (v : View) → void (many m (suc n)) v ≡ on_ok (m v) (λ _. void (many m n))
void-more {A} m n v = go (m v)
  where
    rest : (a : A) (r : Result (List A × View) RecordFault) → with_value (tt {0}) (on_ok r (λ more. give (a ∷ more))) ≡ with_value (tt {0}) r
    rest a (Ok p) = refl
    rest a (Err e) = refl

    go : (r : Result (A × View) RecordFault) → with_value (tt {0}) (on_ok r (λ a. and_then (many m n) (λ more. give (a ∷ more)))) ≡ on_ok r (λ _. void (many m n))
    go (Ok p) = rest p.0 (many m n p.1)
    go (Err e) = refl

module _ {A : Type 0} (m : Field A) (count i : ℕ) (v o : View) (l : i < count)
    (h : void (many m (count - i)) v ≡ void (many m count) o) where
  opened : on_ok (m v) (λ _. void (many m (count - (i + 1)))) ≡ void (many m count) o
  opened =
      let e : count - i ≡ suc (count - (i + 1)) = omega arith in
      sym (void-more m (count - (i + 1)) v) ∙ ap (λ n. void (many m n) v) (sym e) ∙ h

  pub many-goes : (a : A) (w : View) → Ok (a, w) ≡ m v → void (many m (count - (i + 1))) w ≡ void (many m count) o
  many-goes a w e = ap (λ r. on_ok r (λ _. void (many m (count - (i + 1))))) e ∙ opened

  pub many-stops : (e : RecordFault) → Err e ≡ m v → Err e ≡ void (many m count) o
  many-stops x e = ap (λ r. on_ok r (λ _. void (many m (count - (i + 1))))) e ∙ opened
