-- So many fields that each hold one string are the list of these strings.
use Rattle.std.proofs.Common.{◌≡◌, ℕ, zero, suc, ◌+◌, eqb, ltb, List, [], ◌∷◌, map, length, take, drop, Ok, Err, Result, sym, refl, ap, ◌∙◌}
use Rattle.std.proofs.lemmas.List.{map-id}
use Rattle.std.proofs.lemmas.Bool.{cond_both}
use Rattle.text.specs.declared.faults.StringFault.{StringFault}
use Rattle.text.specs.Forms.{Form, Piece, without_places}
use Rattle.text.specs.Readers.{read_name, read_form}
use Rattle.records.specs.declared.faults.RecordFault.{RecordFault}
use Rattle.records.specs.declared.strings.Strings.{Strings}
use Rattle.records.specs.Fields.{View, Field, outcome_by, on_ok, and_then, give, with_value, void, byte_field, string_of, in_field, or_text, name_from, name_field, form_from, form_field}
use Rattle.records.specs.Bodies.{many, strings_in, list_field, form_in, form_or_plain, texts, forms, names_field, forms_field}

-- a reading of which f keeps `val` of the string at the front, and which leaves what follows it
abbrev Shape : {A B : Type 0} → (B → A) → (List ℕ → A) → List ℕ → Result (B × View) RecordFault → Type 0
Shape f val left (Err e) = Unit {0}
Shape f val [] (Ok p) = ⊥
Shape f val (k ∷ bs) (Ok p) = (f p.0 ≡ val (take k bs)) × (p.1.left ≡ drop k bs)

module _ {A B : Type 0} (m : Field B) (f : B → A) (val : List ℕ → A) (shape : (v : View) → Shape f val v.left (m v)) where
  abbrev kept : Field A
  kept = and_then m (λ b. give (f b))

  cons : (n : ℕ) (left : List ℕ) (b : B) (w : View) → Shape f val left (Ok (b, w)) → (q : Result (List A × View) RecordFault) (r : Result (List B × View) RecordFault) → q ≡ with_value (map val (strings_in n w.left)) r → on_ok q (λ more. give (f b ∷ more)) ≡ with_value (map val (strings_in (suc n) left)) (on_ok r (λ more. give (b ∷ more)))
  cons n left b w s q (Err e) h = ap (λ x. on_ok x (λ more. give (f b ∷ more))) h
  cons n [] b w s q (Ok p) h = absurd s
  cons n (k ∷ bs) b w s q (Ok p) h =
      ap (λ x. on_ok x (λ more. give (f b ∷ more))) h
      ∙ (λ i. Ok (s.0 i ∷ map val (strings_in n (s.1 i)), p.1))

  -- the list of what f keeps, where one is answered, is that of the strings
  many-kept : (n : ℕ) (v : View) → many kept n v ≡ with_value (map val (strings_in n v.left)) (many m n v)
  many-kept zero v = refl
  many-kept (suc n) v = go (m v) (shape v) (λ w. many-kept n w)
    where
      go : (r : Result (B × View) RecordFault) → Shape f val v.left r → ((w : View) → many kept n w ≡ with_value (map val (strings_in n w.left)) (many m n w)) → on_ok (on_ok r (λ b. give (f b))) (λ a. and_then (many kept n) (λ more. give (a ∷ more))) ≡ with_value (map val (strings_in (suc n) v.left)) (on_ok r (λ b. and_then (many m n) (λ more. give (b ∷ more))))
      go (Err e) s h = refl
      go (Ok p) s h = cons n v.left p.0 p.1 s (many kept n p.1) (many m n p.1) (h p.1)

  over : Result (List (List ℕ) × View) RecordFault → Result (List A × View) RecordFault
  over (Ok p) = Ok (map val p.0, p.1)
  over (Err e) = Err e

  over-void : (xs : List (List ℕ)) (r : Result (List B × View) RecordFault) → over (with_value xs (with_value (tt {0}) r)) ≡ with_value (map val xs) r
  unfolding over
  over-void xs (Ok p) = refl
  over-void xs (Err e) = refl

  over-list : (r : Result (ℕ × View) RecordFault) → over (on_ok r (λ n w. with_value (strings_in n w.left) (void (many m n) w))) ≡ on_ok r (many kept)
  unfolding over
  over-list (Ok p) = over-void (strings_in p.0 p.1.left) (many m p.0 p.1) ∙ sym (many-kept p.0 p.1)
  over-list (Err e) = refl

  -- a list that was read is that of what its strings are read as
  list-kept : (r : Result Strings RecordFault) (v w : View) → outcome_by texts r w ≡ list_field m v → outcome_by (λ s. map val (texts s)) r w ≡ and_then byte_field (many kept) v
  unfolding over
  list-kept (Ok s) v w h = ap over h ∙ over-list (byte_field v)
  list-kept (Err e) v w h = ap over h ∙ over-list (byte_field v)

-- names and feature strings are such readings
name-shape : (v : View) → Shape {A = List ℕ} {B = Piece} (λ p. p.text) (λ t. t) v.left (name_field v)
name-shape v = go v.left v.place
  where
    read : (k at : ℕ) (bs : List ℕ) (r : Result Piece StringFault) → Shape {A = List ℕ} {B = Piece} (λ p. p.text) (λ t. t) (k ∷ bs) (or_text (in_field {A = Piece} (at + 1) (λ _. record { place = at + 1; text = take k bs }) r) (record { left = drop k bs; place = (at + 1) + k }))
    read k at bs (Ok p) = (refl, refl)
    read k at bs (Err e) = tt

    go : (left : List ℕ) (at : ℕ) → Shape {A = List ℕ} {B = Piece} (λ p. p.text) (λ t. t) left (on_ok (string_of left at) (λ p. or_text (name_from p)))
    go [] at = tt
    go (k ∷ bs) at =
        cond_both (ltb (length bs) k) _ _ (λ r. Shape {A = List ℕ} {B = Piece} (λ p. p.text) (λ t. t) (k ∷ bs) (on_ok r (λ p. or_text (name_from p))))
        (λ _. tt) (λ _. read k at bs (read_name (take k bs)))

form-shape : (v : View) → Shape without_places form_in v.left (form_field v)
form-shape v = go v.left v.place
  where
    read : (k at : ℕ) (bs : List ℕ) (r : Result (Form Piece) StringFault) → read_form (take k bs) ≡ r → Shape without_places form_in (k ∷ bs) (or_text (in_field (at + 1) (λ f. f) r) (record { left = drop k bs; place = (at + 1) + k }))
    read k at bs (Ok f) e = (sym (ap (form_or_plain (take k bs)) e), refl)
    read k at bs (Err x) e = tt

    form : (k at : ℕ) (bs : List ℕ) → Shape without_places form_in (k ∷ bs) (or_text (form_from (record { place = at + 1; text = take k bs })) (record { left = drop k bs; place = (at + 1) + k }))
    form k at bs =
        cond_both (eqb (length (take k bs)) 0) _ _ (λ r. Shape without_places form_in (k ∷ bs) (or_text r (record { left = drop k bs; place = (at + 1) + k })))
        (λ _. tt) (λ _. read k at bs (read_form (take k bs)) refl)

    go : (left : List ℕ) (at : ℕ) → Shape without_places form_in left (on_ok (string_of left at) (λ p. or_text (form_from p)))
    go [] at = tt
    go (k ∷ bs) at =
        cond_both (ltb (length bs) k) _ _ (λ r. Shape without_places form_in (k ∷ bs) (on_ok r (λ p. or_text (form_from p))))
        (λ _. tt) (λ _. form k at bs)

pub names-kept : (r : Result Strings RecordFault) (v w : View) → outcome_by texts r w ≡ list_field name_field v → outcome_by texts r w ≡ names_field v
names-kept (Ok s) v w h = (λ i. Ok (sym (map-id (texts s)) i, w)) ∙ list-kept name_field (λ p. p.text) (λ t. t) name-shape (Ok s) v w h
names-kept (Err e) v w h = list-kept name_field (λ p. p.text) (λ t. t) name-shape (Err e) v w h

pub forms-kept : (r : Result Strings RecordFault) (v w : View) → outcome_by texts r w ≡ list_field form_field v → outcome_by forms r w ≡ forms_field v
forms-kept r v w h = list-kept form_field without_places form_in form-shape r v w h
