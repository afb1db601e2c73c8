-- What each state of the reader of feature strings tells of the bytes that led to it, and the reader's law.
use Rattle.std.proofs.Common.{◌≡◌, ℕ, ◌+◌, Bool, true, ◌&&◌, ◌||◌, eqb, ltb, List, [], ◌∷◌, ◌++◌, length, take, drop, Some, codes, Result, sym, refl, ap, ◌∙◌, subst, ⊎_elim, append_assoc, append-nil, arith}
use Rattle.std.proofs.Math.Seq.{drop-append-add}
use Rattle.std.proofs.lemmas.List.{take_at, take_all, length_push}
use Rattle.std.proofs.lemmas.Bool.{cond_both, eqb-true, ltb-true, and_parts, or_cases}
use Rattle.text.specs.declared.faults.StringFault.{StringFault}
use Rattle.text.specs.declared.faults.StringFault.TheVariants.{NoForm}
use Rattle.text.specs.declared.strings.Separator.{Separator}
use Rattle.text.specs.declared.strings.Separator.TheVariants.{Switch, Strong, Weak}
use Rattle.text.specs.declared.strings.State.{State}
use Rattle.text.specs.declared.strings.State.TheVariants.{Start, First, AfterQuestion, BeforeLast, Last}
use Rattle.text.specs.Names.{initial, inner, max_name_bytes, Name}
use Rattle.text.specs.Forms.{Form, plain, switch, strong, weak, LawfulForm, spell, Piece, whole, with_places, without_places}
use Rattle.text.specs.Prefixes.{Begins, Longest}
use Rattle.text.specs.Laws.{FormLaw}
use Rattle.text.specs.Readers.{slash, question, colon, spells_dep, step, finish, piece_from, piece_before, read_form}
use Rattle.text.proofs.Machines.{Verdict, reads}
use Rattle.text.proofs.NameRuns.{name-push, one_byte, letter}
use Rattle.text.proofs.FormRuns.{Kept, accepts}

-- what stands before the last name
abbrev Opens : Separator → ℕ → List ℕ → Type 0
Opens Switch first_len q = q ≡ codes "dep:"
Opens Strong first_len q = (n : List ℕ) × (q ≡ n ++ codes "/") × Name n × (length n ≡ first_len)
Opens Weak first_len q = (n : List ℕ) × (q ≡ n ++ codes "?/") × Name n × (length n ≡ first_len)

-- what a state tells of the bytes p that led to it
abbrev Before : State → List ℕ → Type 0
Before Start p = p ≡ []
Before (First len dep) p = Name p × (length p ≡ len) × (dep ≡ true → p ≡ take len (codes "dep"))
Before (AfterQuestion first_len) p = (n : List ℕ) × (p ≡ n ++ codes "?") × Name n × (length n ≡ first_len)
Before (BeforeLast separator first_len) p = Opens separator first_len p
Before (Last separator first_len len) p = (q g : List ℕ) × (p ≡ q ++ g) × Opens separator first_len q × Name g × (length g ≡ len)

spelled : (p : List ℕ) (dep : Bool) (len c : ℕ) → (dep ≡ true → p ≡ take len (codes "dep")) → spells_dep dep len c ≡ true → p ++ c ∷ [] ≡ take (len + 1) (codes "dep")
spelled p dep len c e h =
    let d = and_parts dep _ h in
    ⊎_elim (letter_at 0 100 refl) (⊎-elim' (letter_at 1 101 refl) (letter_at 2 112 refl)) (or_cases (eqb len 0 && eqb c 100) _ d.1)
  where
    letter_at : (k b : ℕ) → take k (codes "dep") ++ b ∷ [] ≡ take (k + 1) (codes "dep") → (eqb len k && eqb c b) ≡ true → p ++ c ∷ [] ≡ take (len + 1) (codes "dep")
    letter_at k b s t =
        let f = and_parts (eqb len k) (eqb c b) t in
        let l : len ≡ k = eqb-true len k f.0 in
        let x : c ≡ b = eqb-true c b f.1 in
        (λ i. (e (and_parts dep _ h).0 ∙ ap (λ m. take m (codes "dep")) l) i ++ x i ∷ []) ∙ s ∙ ap (λ m. take (m + 1) (codes "dep")) (sym l)

    ⊎-elim' : ((eqb len 1 && eqb c 101) ≡ true → p ++ c ∷ [] ≡ take (len + 1) (codes "dep")) → ((eqb len 2 && eqb c 112) ≡ true → p ++ c ∷ [] ≡ take (len + 1) (codes "dep")) → ((eqb len 1 && eqb c 101) || (eqb len 2 && eqb c 112)) ≡ true → p ++ c ∷ [] ≡ take (len + 1) (codes "dep")
    ⊎-elim' f g t = ⊎_elim f g (or_cases (eqb len 1 && eqb c 101) (eqb len 2 && eqb c 112) t)

-- a byte more, of which the test says which one it is; each step of the machine is shorter by it
then : (p : List ℕ) (c b : ℕ) → eqb c b ≡ true → p ++ c ∷ [] ≡ p ++ b ∷ []
then p c b h = ap (λ x. p ++ x ∷ []) (eqb-true c b h)

kept : (s : State) (p : List ℕ) (c : ℕ) → Before s p → Kept (λ s'. Before s' (p ++ c ∷ [])) (step s c)
kept Start p c b =
    cond_both (initial c) _ _ (Kept (λ s'. Before s' (p ++ c ∷ [])))
    (λ h. let e : p ++ c ∷ [] ≡ c ∷ [] = ap (λ x. x ++ c ∷ []) b in
    (subst Name (sym e) (one_byte c h), ap length e, spelled p true 0 c (λ _. b)))
    (λ _. tt)
kept (First len dep) p c b =
    cond_both (inner c && ltb len max_name_bytes) _ _ (Kept (λ s'. Before s' (p ++ c ∷ [])))
    (λ h. let i = and_parts (inner c) (ltb len max_name_bytes) h in
    (name-push p c b.0 i.0 (omega (arith, b.1, ltb-true len max_name_bytes i.1)), omega (arith, length_push p c, b.1), spelled p dep len c b.2))
    (λ _. cond_both (eqb c slash) _ _ (Kept (λ s'. Before s' (p ++ c ∷ [])))
    (λ h. (p, then p c slash h, b.0, b.1))
    (λ _. cond_both (eqb c question) _ _ (Kept (λ s'. Before s' (p ++ c ∷ [])))
    (λ h. (p, then p c question h, b.0, b.1))
    (λ _. cond_both (eqb c colon && (dep && eqb len 3)) _ _ (Kept (λ s'. Before s' (p ++ c ∷ [])))
    (λ h. let i = and_parts (eqb c colon) (dep && eqb len 3) h in
    let d = and_parts dep (eqb len 3) i.1 in
    then p c colon i.0 ∙ ap (λ x. x ++ colon ∷ []) (b.2 d.0 ∙ ap (λ m. take m (codes "dep")) (eqb-true len 3 d.1)))
    (λ _. tt))))
kept (AfterQuestion first_len) p c b =
    cond_both (eqb c slash) _ _ (Kept (λ s'. Before s' (p ++ c ∷ [])))
    (λ h. (b.0, then p c slash h ∙ ap (λ x. x ++ slash ∷ []) b.1 ∙ append_assoc b.0 (codes "?") (codes "/"), b.2, b.3))
    (λ _. tt)
kept (BeforeLast separator first_len) p c b =
    cond_both (initial c) _ _ (Kept (λ s'. Before s' (p ++ c ∷ []))) (λ h. (p, c ∷ [], refl, b, one_byte c h, refl)) (λ _. tt)
kept (Last separator first_len len) p c b =
    cond_both (inner c && ltb len max_name_bytes) _ _ (Kept (λ s'. Before s' (p ++ c ∷ [])))
    (λ h. let i = and_parts (inner c) (ltb len max_name_bytes) h in (
      b.0,
      b.1 ++ c ∷ [],
      ap (λ x. x ++ c ∷ []) b.2 ∙ append_assoc b.0 b.1 (c ∷ []),
      b.3,
      name-push b.1 c b.4 i.0 (omega (arith, b.5, ltb-true len max_name_bytes i.1)),
      omega (arith, length_push b.1 c, b.5),
    ))
    (λ _. tt)

before_more : (s s' : State) (p : List ℕ) (c : ℕ) → Before s p → step s c ≡ Some s' → Before s' (p ++ c ∷ [])
before_more s s' p c b e = subst (Kept (λ x. Before x (p ++ c ∷ []))) e (kept s p c b)

-- with a last name, what stands before it becomes a lawful string
opened : (separator : Separator) (first_len : ℕ) (q g : List ℕ) → Opens separator first_len q → Name g → (f : Form (List ℕ)) × LawfulForm f × (q ++ g ≡ spell f)
opened Switch first_len q g o n = (switch g, n, ap (λ x. x ++ g) o)
opened Strong first_len q g o n = (strong o.0 g, (o.2, n), ap (λ x. x ++ g) o.1 ∙ append_assoc o.0 (codes "/") g)
opened Weak first_len q g o n = (weak o.0 g, (o.2, n), ap (λ x. x ++ g) o.1 ∙ append_assoc o.0 (codes "?/") g)

begun : (s : State) (p : List ℕ) → Before s p → Begins LawfulForm spell p
begun Start p b = (plain (97 ∷ []), 97 ∷ [], letter, ap (λ x. x ++ 97 ∷ []) b)
begun (First len dep) p b = (plain p, [], b.0, append-nil p)
begun (AfterQuestion first_len) p b =
    (weak b.0 (97 ∷ []), slash ∷ 97 ∷ [], (b.2, letter), ap (λ x. x ++ slash ∷ 97 ∷ []) b.1 ∙ append_assoc b.0 (codes "?") (slash ∷ 97 ∷ []))
begun (BeforeLast separator first_len) p b = let o = opened separator first_len p (97 ∷ []) b letter in (o.0, 97 ∷ [], o.1, o.2)
begun (Last separator first_len len) p b = let o = opened separator first_len b.0 b.1 b.3 b.4 in (o.0, [], o.1, append-nil p ∙ b.2 ∙ o.2)

-- a string that ends too early
short : (s : State) (t : List ℕ) → Before s t → Longest LawfulForm spell t (length t)
short s t b = record {
  within = omega arith;
  begins = subst (Begins LawfulForm spell) (sym (take_all (length t) t (omega arith))) (begun s t b);
  longer = λ j a l _. omega arith;
}

-- the pieces that the state speaks of are those of the form
parted : (n m : List ℕ) (first_len k : ℕ) → length n ≡ first_len → (piece_before first_len (n ++ m) ≡ whole n) × (piece_from (first_len + k) (n ++ m) ≡ record { place = length n + k; text = drop k m })
parted n m first_len k e = (
  ap whole (take_at n m first_len e),
  subst (λ j. piece_from (j + k) (n ++ m) ≡ record { place = length n + k; text = drop k m }) e (ap (λ x. record { place = length n + k; text = x }) (drop-append-add n m k)),
)

at-end : (s : State) (t : List ℕ) → Before s t → Verdict LawfulForm spell with_places NoForm t (finish s t)
unfolding opened
at-end Start t b = (length t, refl, short Start t b)
at-end (First len dep) t b = (plain t, b.0, refl, refl)
at-end (AfterQuestion first_len) t b = (length t, refl, short (AfterQuestion first_len) t b)
at-end (BeforeLast separator first_len) t b = (length t, refl, short (BeforeLast separator first_len) t b)
at-end (Last Switch first_len len) t b =
    let o = opened Switch first_len b.0 b.1 b.3 b.4 in
    let e : t ≡ spell (switch b.1) = b.2 ∙ o.2 in
    (switch b.1, b.4, e, ap (λ x. switch (piece_from 4 x)) e)
at-end (Last Strong first_len len) t b =
    let o = opened Strong first_len b.0 b.1 b.3 b.4 in
    let n = b.3.0 in
    let e : t ≡ spell (strong n b.1) = b.2 ∙ o.2 in
    let p = parted n (slash ∷ b.1) first_len 1 b.3.3 in
    (strong n b.1, o.1, e, ap (λ x. strong (piece_before first_len x) (piece_from (first_len + 1) x)) e ∙ (λ i. strong (p.0 i) (p.1 i)))
at-end (Last Weak first_len len) t b =
    let o = opened Weak first_len b.0 b.1 b.3 b.4 in
    let n = b.3.0 in
    let e : t ≡ spell (weak n b.1) = b.2 ∙ o.2 in
    let p = parted n (question ∷ slash ∷ b.1) first_len 2 b.3.3 in
    (weak n b.1, o.1, e, ap (λ x. weak (piece_before first_len x) (piece_from (first_len + 2) x)) e ∙ (λ i. weak (p.0 i) (p.1 i)))

pub without-with_places : (f : Form (List ℕ)) → without_places (with_places f) ≡ f
without-with_places (plain g) = refl
without-with_places (switch n) = refl
without-with_places (strong n g) = refl
without-with_places (weak n g) = refl

pub form-law : (t : List ℕ) (r : Result (Form Piece) StringFault) → r ≡ read_form t → FormLaw t r
form-law = reads step finish NoForm Start LawfulForm spell with_places Before refl before_more begun at-end accepts without_places without-with_places
