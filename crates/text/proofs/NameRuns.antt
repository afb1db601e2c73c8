-- The reader of names reads by the grammar of names.
use Rattle.std.proofs.Common.{◌≡◌, ℕ, ◌+◌, ◌<◌, ◌≤◌, true, ◌&&◌, ltb, List, [], ◌∷◌, ◌++◌, length, Some, None, Ok, Option, Result, sym, refl, ap, ◌∙◌, subst, append-nil, arith}
use Rattle.std.proofs.ByRecursion.{All-push}
use Rattle.std.proofs.lemmas.List.{length_push}
use Rattle.std.proofs.lemmas.Bool.{cond-true, cond-false, cond_both, and_from, and_parts, ne_eqb, lt-ltb, ltb-true}
use Rattle.text.specs.declared.faults.StringFault.{StringFault}
use Rattle.text.specs.declared.faults.StringFault.TheVariants.{NoName}
use Rattle.text.specs.Names.{initial, inner, Inner, max_name_bytes, Name}
use Rattle.text.specs.Forms.{Piece, whole}
use Rattle.text.specs.Prefixes.{Begins}
use Rattle.text.specs.Laws.{NameLaw}
use Rattle.text.specs.Machines.{read_from}
use Rattle.text.specs.Readers.{fits_name, name_step, name_finish, read_name}
use Rattle.text.proofs.Machines.{Verdict, read_some, reads}

pub name-push : (p : List ℕ) (c : ℕ) → Name p → inner c ≡ true → length p < max_name_bytes → Name (p ++ c ∷ [])
name-push [] c n i l = absurd n
name-push (b ∷ bs) c n i l = (n.0, All-push (λ x. inner x ≡ true) bs c n.1 i, omega (arith, length_push bs c))

pub one_byte : (c : ℕ) → initial c ≡ true → Name (c ∷ [])
one_byte c i = (i, tt, omega arith)

-- the letter a
pub letter : Name (97 ∷ [])
letter = one_byte 97 refl

-- the bytes read so far are none, or a name
abbrev Before : ℕ → List ℕ → Type 0
Before at [] = at ≡ 0
Before at (b ∷ bs) = Name (b ∷ bs) × (at ≡ length (b ∷ bs))

-- what a step keeps
abbrev After : Option ℕ → List ℕ → Type 0
After None p = Unit {0}
After (Some at) p = Before at p

after : (at : ℕ) (p : List ℕ) (c : ℕ) → Before at p → After (name_step at c) (p ++ c ∷ [])
after at [] c e =
    cond_both (fits_name at c) _ _ (λ o. After o (c ∷ []))
    (λ a. (one_byte c (sym (ap (λ k. fits_name k c) e) ∙ a), omega arith))
    (λ _. tt)
after at (b ∷ bs) c h =
    cond_both (fits_name at c) _ _ (λ o. After o ((b ∷ bs) ++ c ∷ []))
    (λ a. let k : (inner c && ltb at max_name_bytes) ≡ true = sym (cond-false _ _ _ (ne_eqb at 0 (λ z. omega (arith, h.1)))) ∙ a in
    let i = and_parts (inner c) (ltb at max_name_bytes) k in
    (name-push (b ∷ bs) c h.0 i.0 (omega (arith, h.1, ltb-true at max_name_bytes i.1)), omega (arith, h.1, length_push bs c)))
    (λ _. tt)

before_more : (at at' : ℕ) (p : List ℕ) (c : ℕ) → Before at p → name_step at c ≡ Some at' → Before at' (p ++ c ∷ [])
before_more at at' p c b e = subst (λ o. After o (p ++ c ∷ [])) e (after at p c b)

begun : (at : ℕ) (p : List ℕ) → Before at p → Begins Name (λ n. n) p
begun at [] b = (97 ∷ [], 97 ∷ [], letter, refl)
begun at (b ∷ bs) h = (b ∷ bs, [], h.0, append-nil (b ∷ bs))

at-end : (at : ℕ) (t : List ℕ) → Before at t → Verdict Name (λ n. n) whole NoName t (name_finish at t)
at-end at [] e =
    subst (λ k. Verdict Name (λ n. n) whole NoName [] (name_finish k [])) (sym e)
    (0, refl, record { within = omega arith; begins = begun 0 [] refl; longer = λ j a l _. omega arith })
at-end at (b ∷ bs) h =
    subst (Verdict Name (λ n. n) whole NoName (b ∷ bs)) (sym (cond-false _ _ _ (ne_eqb at 0 (λ z. omega (arith, h.1)))))
    (b ∷ bs, h.0, refl, refl)

inner-run : (t : List ℕ) (at : ℕ) (bs : List ℕ) → 0 < at → Inner bs → at + length bs ≤ max_name_bytes → read_from name_step name_finish NoName t at at bs ≡ Ok (whole t)
inner-run t at [] z i l = cond-false _ _ _ (ne_eqb at 0 (λ e. omega arith))
inner-run t at (b ∷ bs) z i l =
    read_some name_step name_finish NoName t at (at + 1) at b bs
    (cond-true _ _ _ (cond-false _ _ _ (ne_eqb at 0 (λ e. omega arith)) ∙ and_from (inner b) (ltb at max_name_bytes) i.0 (lt-ltb at max_name_bytes (omega arith))))
    ∙ inner-run t (at + 1) bs (omega arith) i.1 (omega arith)

accepts : (n : List ℕ) → Name n → read_name n ≡ Ok (whole n)
accepts [] n = absurd n
accepts (b ∷ bs) n =
    read_some name_step name_finish NoName (b ∷ bs) 0 1 0 b bs (cond-true _ _ _ n.0)
    ∙ inner-run (b ∷ bs) 1 bs (omega arith) n.1 (omega arith)

pub name-law : (t : List ℕ) (r : Result Piece StringFault) → r ≡ read_name t → NameLaw t r
name-law = reads name_step name_finish NoName 0 Name (λ n. n) whole Before refl before_more begun at-end accepts (λ p. p.text) (λ n. refl)
