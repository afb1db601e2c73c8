-- A list that was read has as many strings as its count says.
use Rattle.std.proofs.Common.{◌≡◌, ℕ, zero, suc, ◌+◌, List, ◌∷◌, ◌++◌, length, drop, Ok, Err, Result, sym, refl, ap, ◌∙◌, subst, arith}
use Rattle.std.proofs.lemmas.Grind.{common_steps}
use Rattle.std.proofs.lemmas.List.{drop_at}
use Rattle.text.specs.Forms.{Piece}
use Rattle.records.specs.declared.faults.InField.{InField}
use Rattle.records.specs.declared.faults.RecordFault.{RecordFault}
use Rattle.records.specs.Fields.{View, and_then, give, or_text, text_field, with_value, void}
use Rattle.records.specs.Bodies.{many, strings_in}
use Rattle.records.specs.Encoding.{string}
use Rattle.records.proofs.Numbers.{not-both, in-ok}
use Rattle.records.proofs.Codes.{first}
use Rattle.records.proofs.CodedFields.{string-sound}

read-left : {A : Type 0} (r : Result A InField) (v : View) (a : A) (w : View) → or_text r v ≡ Ok (a, w) → v.left ≡ w.left
read-left r v a w e = grind (arith, common_steps)

-- one string in front of as many as there should be
one-more : (n : ℕ) (t rest bs left : List ℕ) → bs ≡ string t ++ rest → rest ≡ left → length (strings_in n left) ≡ n → length (strings_in (suc n) bs) ≡ suc n
one-more n t rest bs left q l i =
    let d : length (strings_in n (drop (length t) (t ++ rest))) ≡ n = ap (λ ls. length (strings_in n ls)) (drop_at t rest (length t) refl ∙ l) ∙ i in
    subst (λ ls. length (strings_in (suc n) ls) ≡ suc n) (sym q) (ap suc d)

module _ {A : Type 0} (read : Piece → Result A InField) where
  front : (n : ℕ) (v : View) (a : A) (w : View) → text_field read v ≡ Ok (a, w) → length (strings_in n w.left) ≡ n → length (strings_in (suc n) v.left) ≡ suc n
  front n v a w e i =
      let s = string-sound v.left v.place (λ p. or_text (read p)) a w e in
      let l = read-left (read (record { place = v.place + 1; text = s.0 })) (record { left = s.1; place = (v.place + 1) + length s.0 }) a w s.3 in
      one-more n s.0 s.1 v.left w.left s.2 l i

  counted : (n : ℕ) (v : View) (xs : List A) (w : View) → many (text_field read) n v ≡ Ok (xs, w) → length (strings_in n v.left) ≡ n
  counted zero v xs w e = refl
  counted (suc n) v xs w e =
      let h = first (text_field read v) (λ a. and_then (many (text_field read) n) (λ more. give (a ∷ more))) xs w e in
      let m = first (many (text_field read) n h.1) (λ more. give (h.0 ∷ more)) xs w h.3 in
      front n v h.0 h.1 h.2 (counted n h.1 m.0 m.1 m.2)

  void-ok : (r : Result (List A × View) RecordFault) (w : View) → with_value (tt {0}) r ≡ Ok (tt, w) → (xs : List A) × (r ≡ Ok (xs, w))
  void-ok (Ok p) w e = (p.0, ap (λ z. Ok (p.0, z)) (ap (λ z. z.1) (in-ok (tt, p.1) (tt, w) e)))
  void-ok (Err x) w e = absurd (not-both e)

  pub full : (n : ℕ) (v w : View) → void (many (text_field read) n) v ≡ Ok (tt, w) → length (strings_in n v.left) ≡ n
  full n v w e = let m = void-ok (many (text_field read) n v) w e in counted n v m.0 w m.1
