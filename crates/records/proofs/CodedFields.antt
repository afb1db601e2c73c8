-- Each field reads just what its encoding writes.
use Rattle.std.proofs.Common.{◌≡◌, ℕ, ◌+◌, ◌*◌, ◌<◌, ◌≤◌, Bool, true, false, cond, eqb, ltb, List, [], ◌∷◌, ◌++◌, length, take, drop, Ok, Err, Result, sym, refl, ap, ◌∙◌, subst, arith}
use Rattle.std.proofs.lemmas.List.{length-append, take-append-drop, length-take-le, take_at, drop_at}
use Rattle.std.proofs.lemmas.Bool.{cond-false, le-ltb, ltb-false, ne_eqb}
use Rattle.std.proofs.lemmas.Grind.{common_steps}
use Rattle.std.specs.List.{flat_map, AllByRecursion}
use Rattle.text.specs.declared.faults.StringFault.{StringFault}
use Rattle.text.specs.declared.faults.StringFault.TheVariants.{NoForm}
use Rattle.text.specs.Names.{Name}
use Rattle.text.specs.Forms.{Form, Piece, spell, LawfulForm, with_places, without_places}
use Rattle.text.specs.Readers.{read_name, read_form}
use Rattle.text.proofs.NameRuns.{name-law}
use Rattle.text.proofs.FormLaws.{form-law, without-with_places}
use Rattle.records.specs.declared.faults.RecordFault.TheVariants.{Ragged}
use Rattle.records.specs.declared.faults.InField.{InField}
use Rattle.lanes.specs.declared.edge_kinds.EdgeKind.{EdgeKind}
use Rattle.lanes.specs.declared.edge_kinds.EdgeKind.TheVariants.{Normal, Build, Dev}
use Rattle.records.specs.Fields.{View, Field, on_ok, and_then, give, byte_of, byte_field, word_of, word_field, string_of, in_field, or_text, name_from, form_from, switch_at, switch_field, edge_at, edge_field}
use Rattle.records.specs.Bodies.{many, name_text, form_text, names_field, forms_field, values_field, package_field, dependency_field}
use Rattle.records.specs.Encoding.{two, string, list_bytes, value, Bytes}
use Rattle.lanes.specs.EdgeKinds.{edge_kind_number}
use Rattle.std.specs.Int.{from_bool}
use Rattle.records.proofs.Numbers.{not-both, in-ok, two_is, two-value, bytes-split}
use Rattle.records.proofs.Codes.{at, Coded, Closed, first, then-closed, closed-give, many-coded}

-- numbers and switches

byte-sound : (bs : List ℕ) (k b : ℕ) (w : View) → Bytes bs → byte_of bs k ≡ Ok (b, w) → (b < 256) × (bs ≡ (b ∷ []) ++ w.left) × (w.place ≡ k + 1)
byte-sound [] k b w fit e = absurd (not-both e)
byte-sound (x ∷ bs) k b w fit e =
    let q = in-ok (x, at bs (k + 1)) (b, w) e in
    (subst (λ p. p.0 < 256) q fit.0, subst (λ p. x ∷ bs ≡ p.0 ∷ p.1.left) q refl, subst (λ p. p.1.place ≡ k + 1) q refl)

pub byte-coded : Coded byte_field (λ b. b < 256) (λ b. b ∷ [])
byte-coded = record { sound = byte-sound; complete = λ b rest k good. refl }

word_sound : (bs : List ℕ) (k x : ℕ) (w : View) → Bytes bs → word_of bs k ≡ Ok (x, w) → (x < 65536) × (bs ≡ two x ++ w.left) × (w.place ≡ k + 2)
word_sound [] k x w fit e = absurd (not-both e)
word_sound (a ∷ []) k x w fit e = absurd (not-both e)
word_sound (a ∷ b ∷ bs) k x w fit e =
    let q = in-ok (a + b * 256, at bs (k + 2)) (x, w) e in (
      subst (λ p. p.0 < 65536) q (omega (arith, fit.0, fit.1.0)),
      subst (λ p. a ∷ b ∷ bs ≡ two p.0 ++ p.1.left) q (ap (λ y. y ++ bs) (sym (two_is (a + b * 256) a b refl fit.0))),
      subst (λ p. p.1.place ≡ k + 2) q refl,
    )

pub word-coded : Coded word_field (λ x. x < 65536) two
word-coded = record { sound = word_sound; complete = λ x rest k good. ap (λ y. Ok (y, at rest (k + 2))) (two-value x) }

-- a byte of which a choice says what it means
module _ {A : Type 0} (choose : ℕ → ℕ → Field A) (number : A → ℕ)
    (chosen : (k b : ℕ) (v : View) (a : A) (w : View) → choose k b v ≡ Ok (a, w) → (b ≡ number a) × (w ≡ v))
    (chooses : (k : ℕ) (v : View) (a : A) → choose k (number a) v ≡ Ok (a, v)) where
  chosen-coded : Coded (λ v. and_then byte_field (choose v.place) v) (λ _. Unit {0}) (λ a. number a ∷ [])
  chosen-coded = record {
    sound = λ bs k a w fit e.
        let h = first (byte_of bs k) (choose k) a w e in
        let c = byte-sound bs k h.0 h.1 fit h.2 in
        let q = chosen k h.0 h.1 a w h.3 in
        (tt, c.1 ∙ (λ i. q.0 i ∷ (sym q.1 i).left), ap (λ v. v.place) q.1 ∙ c.2);
    complete = λ a rest k good. chooses k (at rest (k + 1)) a;
  }

by-switch : (k b : ℕ) (v : View) (a : Bool) (w : View) → switch_at k b v ≡ Ok (a, w) → (b ≡ from_bool a) × (w ≡ v)
by-switch k b v a w e = grind (arith, common_steps)

pub switch-coded : Coded switch_field (λ _. Unit {0}) (λ a. from_bool a ∷ [])
switch-coded = chosen-coded switch_at from_bool by-switch chooses
  where
    chooses : (k : ℕ) (v : View) (a : Bool) → switch_at k (from_bool a) v ≡ Ok (a, v)
    chooses k v false = refl
    chooses k v true = refl

by-edge : (k b : ℕ) (v : View) (a : EdgeKind) (w : View) → edge_at k b v ≡ Ok (a, w) → (b ≡ edge_kind_number a) × (w ≡ v)
by-edge k b v a w e = grind (arith, common_steps)

pub edge-coded : Coded edge_field (λ _. Unit {0}) (λ a. edge_kind_number a ∷ [])
edge-coded = chosen-coded edge_at edge_kind_number by-edge chooses
  where
    chooses : (k : ℕ) (v : View) (a : EdgeKind) → edge_at k (edge_kind_number a) v ≡ Ok (a, v)
    chooses k v Normal = refl
    chooses k v Build = refl
    chooses k v Dev = refl

-- strings

-- where a string is read, it stands at the front
pub string-sound : {B : Type 0} (bs : List ℕ) (k : ℕ) (f : Piece → Field B) (b : B) (w : View) → on_ok (string_of bs k) f ≡ Ok (b, w) → (t rest : List ℕ) × (bs ≡ string t ++ rest) × (f (record { place = k + 1; text = t }) (at rest ((k + 1) + length t)) ≡ Ok (b, w))
string-sound [] k f b w e = absurd (not-both e)
string-sound {B} (n ∷ bs) k f b w e = go (ltb (length bs) n) refl e
  where
    go : (x : Bool) → ltb (length bs) n ≡ x → on_ok (cond x (Err (Ragged k)) (Ok (record { place = k + 1; text = take n bs }, at (drop n bs) ((k + 1) + n)))) f ≡ Ok (b, w) → (t rest : List ℕ) × (n ∷ bs ≡ string t ++ rest) × (f (record { place = k + 1; text = t }) (at rest ((k + 1) + length t)) ≡ Ok (b, w))
    go true q h = absurd (not-both h)
    go false q h =
        let l : length (take n bs) ≡ n = length-take-le n bs (ltb-false (length bs) n q) in
        (take n bs, drop n bs, (λ i. sym l i ∷ sym (take-append-drop n bs) i), ap (λ j. f (record { place = k + 1; text = take n bs }) (at (drop n bs) ((k + 1) + j))) l ∙ h)

pub string-complete : (t rest : List ℕ) (k : ℕ) → string_of (string t ++ rest) k ≡ Ok (record { place = k + 1; text = t }, at rest ((k + 1) + length t))
string-complete t rest k =
    let l : length t ≤ length (t ++ rest) = omega (arith, length-append t rest) in
    cond-false _ _ _ (le-ltb (length (t ++ rest)) (length t) l)
    ∙ (λ i. Ok (record { place = k + 1; text = take_at t rest (length t) refl i }, at (drop_at t rest (length t) refl i) ((k + 1) + length t)))

-- a string of which a judgement says what it means
module _ {A B : Type 0} (judge : Piece → Result B InField) (out : B → A) (Good : A → Type 0) (text : A → List ℕ)
    (judged : (p : Piece) (b : B) → judge p ≡ Ok b → Good (out b) × (p.text ≡ text (out b)))
    (judges : (a : A) (k : ℕ) → Good a → (b : B) × (judge (record { place = k; text = text a }) ≡ Ok b) × (out b ≡ a)) where
  judged-ok : (r : Result B InField) (v : View) (a : A) (w : View) → on_ok (or_text r v) (λ b. give (out b)) ≡ Ok (a, w) → (b : B) × (r ≡ Ok b) × (out b ≡ a) × (v ≡ w)
  judged-ok (Ok b) v a w e = let q = in-ok (out b, v) (a, w) e in (b, refl, ap (λ p. p.0) q, ap (λ p. p.1) q)
  judged-ok (Err x) v a w e = absurd (not-both e)

  string-coded : Coded (and_then (λ v. on_ok (string_of v.left v.place) (λ p. or_text (judge p))) (λ b. give (out b))) Good (λ a. string (text a))
  string-coded = record {
    sound = λ bs k a w fit e.
        let h = first (on_ok (string_of bs k) (λ p. or_text (judge p))) (λ b. give (out b)) a w e in
        let s = string-sound bs k (λ p. or_text (judge p)) h.0 h.1 h.2 in
        let e2 = ap (λ r. on_ok r (λ b. give (out b))) s.3 ∙ h.3 in
        let j = judged-ok (judge (record { place = k + 1; text = s.0 })) (at s.1 ((k + 1) + length s.0)) a w e2 in
        let g = judged (record { place = k + 1; text = s.0 }) j.0 j.1 in
        let t : s.0 ≡ text a = g.1 ∙ ap text j.2 in
        (subst Good j.2 g.0, s.2 ∙ (λ i. string (t i) ++ (j.3 i).left), ap (λ v. v.place) (sym j.3) ∙ (let z : (k + 1) + length s.0 ≡ k + length (string (text a)) = omega (arith, ap length t) in z));
    complete = λ a rest k good.
        let j = judges a (k + 1) good in
        let z : (k + 1) + length (text a) ≡ k + length (string (text a)) = omega arith in
        ap (λ r. on_ok (on_ok r (λ p. or_text (judge p))) (λ b. give (out b))) (string-complete (text a) rest k)
        ∙ ap (λ r. on_ok (or_text r (at rest ((k + 1) + length (text a)))) (λ b. give (out b))) j.1
        ∙ (λ i. Ok (j.2 i, at rest (z i)));
  }

name-judged : (p q : Piece) → name_from p ≡ Ok q → Name q.text × (p.text ≡ q.text)
name-judged p q e = go (read_name p.text) refl e
  where
    go : (r : Result Piece StringFault) → read_name p.text ≡ r → in_field {A = Piece} p.place (λ _. p) r ≡ Ok q → Name q.text × (p.text ≡ q.text)
    go (Ok a) x h =
        let s = (name-law p.text (read_name p.text) refl).sound a x in
        let o : p ≡ q = in-ok p q h in
        (subst (λ z. Name z.text) o (subst Name (sym s.2) s.1), ap (λ z. z.text) o)
    go (Err f) x h = absurd (not-both h)

pub name-coded : Coded name_text Name string
name-coded = string-coded name_from (λ p. p.text) Name (λ t. t) name-judged
    (λ t k good. (record { place = k; text = t }, ap (in_field {A = Piece} k (λ _. record { place = k; text = t })) ((name-law t (read_name t) refl).complete t good refl), refl))

form-judged : (p : Piece) (f : Form Piece) → form_from p ≡ Ok f → LawfulForm (without_places f) × (p.text ≡ spell (without_places f))
form-judged p f e = go (eqb (length p.text) 0) (read_form p.text) refl e
  where
    go : (x : Bool) (r : Result (Form Piece) StringFault) → read_form p.text ≡ r → cond x (Err (record { field = p.place; fault = NoForm 0 })) (in_field p.place (λ z. z) r) ≡ Ok f → LawfulForm (without_places f) × (p.text ≡ spell (without_places f))
    go true r q h = absurd (not-both h)
    go false (Ok a) q h =
        let s = (form-law p.text (read_form p.text) refl).sound a q in
        let o : without_places f ≡ s.0 = ap without_places (sym (in-ok a f h)) ∙ ap without_places s.3 ∙ without-with_places s.0 in
        (subst LawfulForm (sym o) s.1, s.2 ∙ ap spell (sym o))
    go false (Err x) q h = absurd (not-both h)

form-judges : (f : Form (List ℕ)) (k : ℕ) → LawfulForm f → (b : Form Piece) × (form_from (record { place = k; text = spell f }) ≡ Ok b) × (without_places b ≡ f)
form-judges f k good = go (spell f) refl
  where
    go : (t : List ℕ) → spell f ≡ t → (b : Form Piece) × (form_from (record { place = k; text = t }) ≡ Ok b) × (without_places b ≡ f)
    go [] e =
        let a : read_form [] ≡ Ok (with_places f) = (form-law [] (read_form []) refl).complete f good (sym e) in
        absurd (not-both a)
    go (x ∷ t) e =
        let a : read_form (x ∷ t) ≡ Ok (with_places f) = (form-law (x ∷ t) (read_form (x ∷ t)) refl).complete f good (sym e) in
        (with_places f, cond-false _ _ _ (ne_eqb (length (x ∷ t)) 0 (λ z. omega arith)) ∙ ap (in_field k (λ z. z)) a, without-with_places f)

pub form-coded : Coded form_text LawfulForm value
form-coded = string-coded form_from without_places LawfulForm spell form-judged form-judges

-- lists
module _ {A : Type 0} {m : Field A} {Good : A → Type 0} {bytes : A → List ℕ} (code : Coded m Good bytes) where
  list-coded : Coded (and_then byte_field (many m)) (λ xs. (length xs < 256) × AllByRecursion Good xs) (list_bytes bytes)
  list-coded = record {
    sound = λ bs k xs w fit e.
        let h = first (byte_of bs k) (many m) xs w e in
        let c = byte-sound bs k h.0 h.1 fit h.2 in
        let l = (many-coded code h.0).sound h.1.left h.1.place xs w (bytes-split (h.0 ∷ []) h.1.left (subst Bytes c.1 fit)).1 h.3 in (
          (subst (λ n. n < 256) (sym l.0.1) c.0, l.0.0),
          c.1 ∙ (λ i. sym l.0.1 i ∷ l.1 i),
          (let z : w.place ≡ k + length (list_bytes bytes xs) = omega (arith, l.2, c.2) in z),
        );
    complete = λ xs rest k good.
        let z : (k + 1) + length (flat_map bytes xs) ≡ k + length (list_bytes bytes xs) = omega arith in
        (many-coded code (length xs)).complete xs rest (k + 1) (good.1, refl) ∙ ap (λ j. Ok (xs, at rest j)) z;
  }

pub names-coded : Coded names_field (λ ts. (length ts < 256) × AllByRecursion Name ts) (list_bytes string)
names-coded = list-coded name-coded

pub forms-coded : Coded forms_field (λ fs. (length fs < 256) × AllByRecursion LawfulForm fs) (list_bytes value)
forms-coded = list-coded form-coded

-- bodies

pub package-closed : Closed package_field (λ _. Unit {0}) (λ h. Unit {0} × (Name h.name × Unit {0})) (λ h. (from_bool h.proc ∷ []) ++ (string h.name ++ []))
package-closed =
    then-closed switch-coded (λ h. h.proc) _ _ _ _ (λ proc.
    then-closed name-coded (λ h. h.name) _ _ _ _ (λ name.
    closed-give (record { proc = proc; name = name }) _ ((tt, refl), refl) (λ h b. λ i. record { proc = b.0.1 i; name = b.1 i })))

pub values-closed : Closed values_field (λ _. Unit {0}) (λ fs. ((length fs < 256) × AllByRecursion LawfulForm fs) × Unit {0}) (λ fs. list_bytes value fs ++ [])
values-closed = then-closed forms-coded (λ fs. fs) _ _ _ _ (λ fs. closed-give fs _ (tt, refl) (λ gs b. b.1))

pub dependency-closed : Closed dependency_field (λ _. Unit {0}) (λ d. (d.end < 65536) × (Unit {0} × (Unit {0} × (Unit {0} × (Name d.name × (((length d.asks < 256) × AllByRecursion Name d.asks) × Unit {0}))))))
    (λ d. two d.end ++ ((edge_kind_number d.edge ∷ []) ++ ((from_bool d.optional ∷ []) ++ ((from_bool d.defaults ∷ []) ++ (string d.name ++ (list_bytes string d.asks ++ []))))))
dependency-closed =
    then-closed word-coded (λ d. d.end) _ _ _ _ (λ end.
    then-closed edge-coded (λ d. d.edge) _ _ _ _ (λ edge.
    then-closed switch-coded (λ d. d.optional) _ _ _ _ (λ optional.
    then-closed switch-coded (λ d. d.defaults) _ _ _ _ (λ defaults.
    then-closed name-coded (λ d. d.name) _ _ _ _ (λ name.
    then-closed names-coded (λ d. d.asks) _ _ _ _ (λ asks.
    closed-give (record { end = end; edge = edge; optional = optional; defaults = defaults; name = name; asks = asks }) _
    ((((((tt, refl), refl), refl), refl), refl), refl)
    (λ d b. λ i. record { end = b.0.0.0.0.0.1 i; edge = b.0.0.0.0.1 i; optional = b.0.0.0.1 i; defaults = b.0.0.1 i; name = b.0.1 i; asks = b.1 i })))))))
