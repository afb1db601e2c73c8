-- Fields that read just what an encoding writes.
use Rattle.std.proofs.Common.{◌≡◌, ℕ, zero, suc, ◌+◌, List, [], ◌∷◌, ◌++◌, length, Ok, Err, Result, sym, refl, ap, ◌∙◌, subst, append_assoc, arith}
use Rattle.std.proofs.lemmas.List.{length-append}
use Rattle.std.specs.List.{flat_map, AllByRecursion}
use Rattle.records.specs.declared.faults.RecordFault.{RecordFault}
use Rattle.records.specs.Fields.{View, Field, on_ok, and_then, give, end_of, end_field}
use Rattle.records.specs.Bodies.{many}
use Rattle.records.specs.Encoding.{Bytes}
use Rattle.records.proofs.Numbers.{not-both, in-ok, bytes-split}

abbrev pub at : List ℕ → ℕ → View
at bs k = record { left = bs; place = k }

-- the field reads the bytes of each good value, whatever follows, and nothing else
pub record Coded {A : Type 0} (m : Field A) (Good : A → Type 0) (bytes : A → List ℕ) : Type 0 where
  pub sound : (bs : List ℕ) (k : ℕ) (a : A) (w : View) → Bytes bs → m (at bs k) ≡ Ok (a, w) → Good a × (bs ≡ bytes a ++ w.left) × (w.place ≡ k + length (bytes a))
  pub complete : (a : A) (rest : List ℕ) (k : ℕ) → Good a → m (at (bytes a ++ rest) k) ≡ Ok (a, at rest (k + length (bytes a)))

-- the same for a field that ends its record, of values about which something is known before
pub record Closed {B : Type 0} (m : Field B) (Before Good : B → Type 0) (bytes : B → List ℕ) : Type 0 where
  pub sound : (bs : List ℕ) (k : ℕ) (b : B) (w : View) → Bytes bs → m (at bs k) ≡ Ok (b, w) → Before b × Good b × (bs ≡ bytes b)
  pub complete : (b : B) (k : ℕ) → Before b → Good b → (w : View) × (m (at (bytes b) k) ≡ Ok (b, w))

pub first : {A B : Type 0} (r : Result (A × View) RecordFault) (f : A → Field B) (b : B) (w : View) → on_ok r f ≡ Ok (b, w) → (a : A) × (v : View) × (r ≡ Ok (a, v)) × (f a v ≡ Ok (b, w))
first (Ok p) f b w e = (p.0, p.1, refl, e)
first (Err x) f b w e = absurd (not-both e)

-- one field more in front
pub then-closed : {A B : Type 0} {m : Field A} {Good : A → Type 0} {bytes : A → List ℕ} (code : Coded m Good bytes) (declaration : B → A) (k : A → Field B) (Before More : B → Type 0) (rest : B → List ℕ) → ((a : A) → Closed (k a) (λ b. Before b × (declaration b ≡ a)) More rest) → Closed (and_then m k) Before (λ b. Good (declaration b) × More b) (λ b. bytes (declaration b) ++ rest b)
then-closed {A} {B} {m} {Good} {bytes} code declaration k Before More rest tail = record {
  sound = λ bs p b w fit e.
      let h = first (m (at bs p)) k b w e in
      let c = code.sound bs p h.0 h.1 fit h.2 in
      let t = (tail h.0).sound h.1.left h.1.place b w (bytes-split (bytes h.0) h.1.left (subst Bytes c.1 fit)).1 h.3 in
      let q : h.0 ≡ declaration b = sym t.0.1 in
      (t.0.0, (subst Good q c.0, t.1), c.1 ∙ (λ i. bytes (q i) ++ t.2 i));
  complete = λ b p before good.
      let e = code.complete (declaration b) (rest b) p good.0 in
      let t = (tail (declaration b)).complete b (p + length (bytes (declaration b))) (before, refl) good.1 in
      (t.0, ap (λ r. on_ok r k) e ∙ t.1);
}

-- the record ends here, and the value is b
pub closed-give : {B : Type 0} (b : B) (Before : B → Type 0) → Before b → ((c : B) → Before c → c ≡ b) → Closed (and_then end_field (λ _. give b)) Before (λ _. Unit {0}) (λ _. [])
closed-give {B} b Before known only = record {
  sound = λ bs p c w fit e. ended bs p c w e;
  complete = λ c p before good. (at [] p, ap (λ x. Ok (x, at [] p)) (sym (only c before)));
}
  where
    ended : (bs : List ℕ) (p : ℕ) (c : B) (w : View) → on_ok (end_of bs p) (λ _. give b) ≡ Ok (c, w) → Before c × Unit {0} × (bs ≡ [])
    ended [] p c w e = (subst Before (ap (λ x. x.0) (in-ok (b, at [] p) (c, w) e)) known, tt, refl)
    ended (x ∷ bs) p c w e = absurd (not-both e)

-- so many fields alike
module _ {A : Type 0} {m : Field A} {Good : A → Type 0} {bytes : A → List ℕ} (code : Coded m Good bytes) where
  many-sound : (n : ℕ) (bs : List ℕ) (k : ℕ) (xs : List A) (w : View) → Bytes bs → many m n (at bs k) ≡ Ok (xs, w) → (AllByRecursion Good xs × (length xs ≡ n)) × (bs ≡ flat_map bytes xs ++ w.left) × (w.place ≡ k + length (flat_map bytes xs))
  many-sound zero bs k xs w fit e =
      let q = in-ok ([], at bs k) (xs, w) e in (
        subst (λ p. AllByRecursion Good p.0 × (length p.0 ≡ 0)) q (tt, refl),
        subst (λ p. bs ≡ flat_map bytes p.0 ++ p.1.left) q refl,
        subst (λ p. p.1.place ≡ k + length (flat_map bytes p.0)) q (omega arith),
      )
  many-sound (suc n) bs k xs w fit e =
      let h = first (m (at bs k)) (λ a. and_then (many m n) (λ more. give (a ∷ more))) xs w e in
      let c = code.sound bs k h.0 h.1 fit h.2 in
      let g = first (many m n h.1) (λ more. give (h.0 ∷ more)) xs w h.3 in
      let r = many-sound n h.1.left h.1.place g.0 g.1 (bytes-split (bytes h.0) h.1.left (subst Bytes c.1 fit)).1 g.2 in
      let q = in-ok (h.0 ∷ g.0, g.1) (xs, w) g.3 in (
        subst (λ p. AllByRecursion Good p.0 × (length p.0 ≡ suc n)) q ((c.0, r.0.0), ap suc r.0.1),
        subst (λ p. bs ≡ flat_map bytes p.0 ++ p.1.left) q (c.1 ∙ ap (λ y. bytes h.0 ++ y) r.1 ∙ sym (append_assoc (bytes h.0) (flat_map bytes g.0) g.1.left)),
        subst (λ p. p.1.place ≡ k + length (flat_map bytes p.0)) q (omega (arith, r.2, c.2, length-append (bytes h.0) (flat_map bytes g.0))),
      )

  many-complete : (xs : List A) (rest : List ℕ) (k : ℕ) → AllByRecursion Good xs → many m (length xs) (at (flat_map bytes xs ++ rest) k) ≡ Ok (xs, at rest (k + length (flat_map bytes xs)))
  many-complete [] rest k good = let e : k ≡ k + 0 = omega arith in ap (λ p. Ok ([], at rest p)) e
  many-complete (x ∷ xs) rest k good =
      let e = code.complete x (flat_map bytes xs ++ rest) k good.0 in
      let f = many-complete xs rest (k + length (bytes x)) good.1 in
      let p : (k + length (bytes x)) + length (flat_map bytes xs) ≡ k + length (bytes x ++ flat_map bytes xs) = omega (arith, length-append (bytes x) (flat_map bytes xs)) in
      ap (λ y. many m (suc (length xs)) (at y k)) (append_assoc (bytes x) (flat_map bytes xs) rest)
      ∙ ap (λ r. on_ok r (λ a. and_then (many m (length xs)) (λ more. give (a ∷ more)))) e
      ∙ ap (λ r. on_ok r (λ more. give (x ∷ more))) f
      ∙ ap (λ j. Ok (x ∷ xs, at rest j)) p

  pub many-coded : (n : ℕ) → Coded (many m n) (λ xs. AllByRecursion Good xs × (length xs ≡ n)) (flat_map bytes)
  many-coded n = record {
    sound = many-sound n;
    complete = λ xs rest k good. ap (λ j. many m j (at (flat_map bytes xs ++ rest) k)) (sym good.1) ∙ many-complete xs rest k good.0;
  }
