-- The reader of feature strings reads by their grammar.
use Rattle.std.proofs.Common.{◌≡◌, ℕ, ◌+◌, ◌<◌, ◌≤◌, Bool, true, cond, ◌&&◌, eqb, ltb, List, [], ◌∷◌, ◌++◌, length, Some, None, Ok, Option, sym, refl, ap, ◌∙◌, subst, append-nil, arith}
use Rattle.std.proofs.Math.Seq.{drop-append-add}
use Rattle.std.proofs.lemmas.List.{take_at}
use Rattle.std.proofs.lemmas.Bool.{cond_both, cond-true, eqb-true, and_parts, and_from, lt-ltb}
use Rattle.text.specs.declared.faults.StringFault.TheVariants.{NoForm}
use Rattle.text.specs.declared.strings.Separator.{Separator}
use Rattle.text.specs.declared.strings.Separator.TheVariants.{Switch, Strong, Weak}
use Rattle.text.specs.declared.strings.State.{State}
use Rattle.text.specs.declared.strings.State.TheVariants.{Start, First, AfterQuestion, BeforeLast, Last}
use Rattle.text.specs.Names.{initial, inner, Inner, max_name_bytes, Name}
use Rattle.text.specs.Forms.{Form, plain, switch, strong, weak, LawfulForm, spell, whole, with_places}
use Rattle.text.specs.Machines.{read_from}
use Rattle.text.specs.Readers.{slash, question, colon, spells_dep, step, finish, read_form, Room}
use Rattle.text.proofs.Machines.{read_some}

-- what a step answers keeps a fact of states
abbrev pub Kept : (State → Type 0) → Option State → Type 0
Kept P None = Unit {0}
Kept P (Some s) = P s

-- the pieces that a state speaks of lie in the bytes read
room-kept : (s : State) (c at : ℕ) → Room s at → Kept (λ s'. Room s' (at + 1)) (step s c)
room-kept Start c at r = cond_both (initial c) _ _ (Kept (λ s'. Room s' (at + 1))) (λ _. omega arith) (λ _. tt)
room-kept (First len dep) c at r =
    cond_both (inner c && ltb len max_name_bytes) _ _ (Kept (λ s'. Room s' (at + 1))) (λ _. omega arith)
    (λ _. cond_both (eqb c slash) _ _ (Kept (λ s'. Room s' (at + 1))) (λ _. (omega arith, tt))
    (λ _. cond_both (eqb c question) _ _ (Kept (λ s'. Room s' (at + 1))) (λ _. omega arith)
    (λ _. cond_both (eqb c colon && (dep && eqb len 3)) _ _ (Kept (λ s'. Room s' (at + 1)))
    (λ h. (omega arith, eqb-true len 3 (and_parts dep (eqb len 3) (and_parts (eqb c colon) (dep && eqb len 3) h).1).1))
    (λ _. tt))))
room-kept (AfterQuestion first_len) c at r = cond_both (eqb c slash) _ _ (Kept (λ s'. Room s' (at + 1))) (λ _. (omega arith, tt)) (λ _. tt)
room-kept (BeforeLast separator first_len) c at r = cond_both (initial c) _ _ (Kept (λ s'. Room s' (at + 1))) (λ _. (omega arith, r.1)) (λ _. tt)
room-kept (Last separator first_len len) c at r =
    cond_both (inner c && ltb len max_name_bytes) _ _ (Kept (λ s'. Room s' (at + 1))) (λ _. (omega arith, r.1)) (λ _. tt)

pub room-more : (s s' : State) (c at : ℕ) → step s c ≡ Some s' → Room s at → Room s' (at + 1)
room-more s s' c at e r = subst (Kept (λ x. Room x (at + 1))) e (room-kept s c at r)

-- A lawful string is accepted, as its form.

-- a byte goes on with a name that has room
goes : {A : Type 0} (b len : ℕ) (x y : A) → inner b ≡ true → len < max_name_bytes → cond (inner b && ltb len max_name_bytes) x y ≡ x
goes b len x y i l = cond-true _ _ _ (and_from (inner b) (ltb len max_name_bytes) i (lt-ltb len max_name_bytes l))

-- bytes of the first name; what becomes of the flag does not matter
first_run : (t : List ℕ) (len : ℕ) (dep : Bool) (at : ℕ) (bs rest : List ℕ) → Inner bs → len + length bs ≤ max_name_bytes → (d : Bool) × (read_from step finish NoForm t (First len dep) at (bs ++ rest) ≡ read_from step finish NoForm t (First (len + length bs) d) (at + length bs) rest)
first_run t len dep at [] rest i l =
    let e : len ≡ len + 0 = omega arith in
    let k : at ≡ at + 0 = omega arith in
    (dep, λ j. read_from step finish NoForm t (First (e j) dep) (k j) rest)
first_run t len dep at (b ∷ bs) rest i l =
    let h = first_run t (len + 1) (spells_dep dep len b) (at + 1) bs rest i.1 (omega arith) in
    let e : (len + 1) + length bs ≡ len + length (b ∷ bs) = omega arith in
    let k : (at + 1) + length bs ≡ at + length (b ∷ bs) = omega arith in (
      h.0,
      read_some step finish NoForm t (First len dep) (First (len + 1) (spells_dep dep len b)) at b (bs ++ rest) (goes b len _ _ i.0 (omega arith))
          ∙ h.1
          ∙ (λ j. read_from step finish NoForm t (First (e j) h.0) (k j) rest),
    )

-- the whole first name
start-run : (t n rest : List ℕ) → Name n → (d : Bool) × (read_from step finish NoForm t Start 0 (n ++ rest) ≡ read_from step finish NoForm t (First (length n) d) (length n) rest)
start-run t [] rest n = absurd n
start-run t (b ∷ bs) rest n =
    let h = first_run t 1 (spells_dep true 0 b) 1 bs rest n.1 (omega arith) in
    let e : 1 + length bs ≡ length (b ∷ bs) = omega arith in (
      h.0,
      read_some step finish NoForm t Start (First 1 (spells_dep true 0 b)) 0 b (bs ++ rest) (cond-true _ _ _ n.0)
          ∙ h.1
          ∙ (λ j. read_from step finish NoForm t (First (e j) h.0) (e j) rest),
    )

-- the last name, to the string's end
last-run : (t : List ℕ) (separator : Separator) (first_len len at : ℕ) (bs : List ℕ) → Inner bs → len + length bs ≤ max_name_bytes → read_from step finish NoForm t (Last separator first_len len) at bs ≡ finish (Last separator first_len 1) t
last-run t separator first_len len at [] i l = same separator
  where
    same : (k : Separator) → finish (Last k first_len len) t ≡ finish (Last k first_len 1) t
    same Switch = refl
    same Strong = refl
    same Weak = refl
last-run t separator first_len len at (b ∷ bs) i l =
    read_some step finish NoForm t (Last separator first_len len) (Last separator first_len (len + 1)) at b bs (goes b len _ _ i.0 (omega arith))
    ∙ last-run t separator first_len (len + 1) (at + 1) bs i.1 (omega arith)

name-run : (t : List ℕ) (separator : Separator) (first_len at : ℕ) (g : List ℕ) → Name g → read_from step finish NoForm t (BeforeLast separator first_len) at g ≡ finish (Last separator first_len 1) t
name-run t separator first_len at [] n = absurd n
name-run t separator first_len at (b ∷ bs) n =
    read_some step finish NoForm t (BeforeLast separator first_len) (Last separator first_len 1) at b bs (cond-true _ _ _ n.0)
    ∙ last-run t separator first_len 1 (at + 1) bs n.1 (omega arith)

-- what stands after the first name and k bytes more
pub accepts : (f : Form (List ℕ)) → LawfulForm f → read_form (spell f) ≡ Ok (with_places f)
accepts (plain g) l =
    let s = start-run g g [] l in
    ap (read_from step finish NoForm g Start 0) (sym (append-nil g)) ∙ s.1
accepts (switch n) l = name-run (spell (switch n)) Switch 3 4 n l
accepts (strong n g) l =
    let t : List ℕ = spell (strong n g) in
    let s = start-run t n (slash ∷ g) l.0 in
    s.1
    ∙ read_some step finish NoForm t (First (length n) s.0) (BeforeLast Strong (length n)) (length n) slash g refl
    ∙ name-run t Strong (length n) (length n + 1) g l.1
    ∙ (λ i. Ok (strong (whole (take_at n (slash ∷ g) (length n) refl i)) (record { place = length n + 1; text = drop-append-add n (slash ∷ g) 1 i })))
accepts (weak n g) l =
    let t : List ℕ = spell (weak n g) in
    let s = start-run t n (question ∷ slash ∷ g) l.0 in
    s.1
    ∙ read_some step finish NoForm t (First (length n) s.0) (AfterQuestion (length n)) (length n) question (slash ∷ g) refl
    ∙ read_some step finish NoForm t (AfterQuestion (length n)) (BeforeLast Weak (length n)) (length n + 1) slash g refl
    ∙ name-run t Weak (length n) (length n + 1 + 1) g l.1
    ∙ (λ i. Ok (weak (whole (take_at n (question ∷ slash ∷ g) (length n) refl i)) (record { place = length n + 2; text = drop-append-add n (question ∷ slash ∷ g) 2 i })))
