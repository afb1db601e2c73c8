-- Readers that take a string byte by byte, over any states and any grammar.
use Rattle.std.proofs.Common.{◌≡◌, ℕ, zero, suc, ◌+◌, ◌<◌, List, [], ◌∷◌, ◌++◌, length, take, Some, None, Ok, Err, Option, Result, sym, refl, ap, ◌∙◌, subst, append_assoc, append-nil, arith}
use Rattle.std.proofs.lemmas.List.{length-append, length_push, take_at}
use Rattle.text.specs.declared.faults.StringFault.{StringFault}
use Rattle.text.specs.Machines.{read_from}
use Rattle.text.specs.Prefixes.{Begins, Longest}
use Rattle.text.specs.Laws.{Reads}

module _ {S A : Type 0} (step : S → ℕ → Option S) (finish : S → List ℕ → Result A StringFault) (fault : ℕ → StringFault) where
  -- what a step answers decides how the reading goes on
  abbrev pub onward : List ℕ → Option S → ℕ → List ℕ → Result A StringFault
  onward t None at bs = Err (fault at)
  onward t (Some s) at bs = read_from step finish fault t s (at + 1) bs

  pub read-onward : (t : List ℕ) (s : S) (at b : ℕ) (bs : List ℕ) → read_from step finish fault t s at (b ∷ bs) ≡ onward t (step s b) at bs
  read-onward t s at b bs = go (step s b)
    where
      go : (o : Option S) → elim o [ None ↦ Err (fault at) | Some s' ↦ read_from step finish fault t s' (at + 1) bs ] ≡ onward t o at bs
      go None = refl
      go (Some s') = refl

  pub read_some : (t : List ℕ) (s s' : S) (at b : ℕ) (bs : List ℕ) → step s b ≡ Some s' → read_from step finish fault t s at (b ∷ bs) ≡ read_from step finish fault t s' (at + 1) bs
  read_some t s s' at b bs e = read-onward t s at b bs ∙ ap (λ o. onward t o at bs) e

-- what an answer has to be
abbrev pub Verdict : {M A : Type 0} → (M → Type 0) → (M → List ℕ) → (M → A) → (ℕ → StringFault) → List ℕ → Result A StringFault → Type 0
Verdict {M} Lawful spell answer fault t (Ok a) = (m : M) × Lawful m × (t ≡ spell m) × (a ≡ answer m)
Verdict Lawful spell answer fault t (Err e) = (k : ℕ) × (e ≡ fault k) × Longest Lawful spell t k

-- a longer prefix holds the byte after p: something is left, which the library's `take-append-add` does not say
take_past : (p : List ℕ) (c : ℕ) (bs : List ℕ) (j : ℕ) → length p < j → (m : List ℕ) × (take j (p ++ c ∷ bs) ≡ p ++ c ∷ m)
take_past [] c bs zero l = absurd (omega arith)
take_past [] c bs (suc j) l = (take j bs, refl)
take_past (x ∷ p) c bs zero l = absurd (omega arith)
take_past (x ∷ p) c bs (suc j) l = let h = take_past p c bs j (omega arith) in (h.0, ap (λ y. x ∷ y) h.1)

-- A reader reads by a grammar, if
module _ {S M A : Type 0}
    (step : S → ℕ → Option S) (finish : S → List ℕ → Result A StringFault) (fault : ℕ → StringFault) (start : S)
    (Lawful : M → Type 0) (spell : M → List ℕ) (answer : M → A)
    -- a state tells something of the bytes that led to it,
    (Before : S → List ℕ → Type 0)
    (before-none : Before start [])
    (before_more : (s s' : S) (p : List ℕ) (c : ℕ) → Before s p → step s c ≡ Some s' → Before s' (p ++ c ∷ []))
    -- from which they begin some lawful string, and the answer at the end follows,
    (begun : (s : S) (p : List ℕ) → Before s p → Begins Lawful spell p)
    (at-end : (s : S) (t : List ℕ) → Before s t → Verdict Lawful spell answer fault t (finish s t))
    -- each lawful string is accepted, and the answer tells which one it is
    (accepts : (m : M) → Lawful m → read_from step finish fault (spell m) start 0 (spell m) ≡ Ok (answer m))
    (meaning : A → M) (meaning-answer : (m : M) → meaning (answer m) ≡ m)
  where
    -- p leads to s, whatever follows
    abbrev Reach : S → List ℕ → Type 0
    Reach s p = (t rest : List ℕ) → read_from step finish fault t start 0 (p ++ rest) ≡ read_from step finish fault t s (length p) rest

    reach-more : (s s' : S) (p : List ℕ) (c : ℕ) → Reach s p → step s c ≡ Some s' → Reach s' (p ++ c ∷ [])
    reach-more s s' p c r e t rest =
        ap (read_from step finish fault t start 0) (append_assoc p (c ∷ []) rest)
        ∙ r t (c ∷ rest)
        ∙ read_some step finish fault t s s' (length p) c rest e
        ∙ ap (λ k. read_from step finish fault t s' k rest) (sym (length_push p c))

    -- where a byte has no step, no lawful string begins so: the reader would refuse that one too
    dead : (s : S) (p : List ℕ) (c : ℕ) (bs : List ℕ) (j : ℕ) → Reach s p → step s c ≡ None → length p < j → Begins Lawful spell (take j (p ++ c ∷ bs)) → ⊥
    dead s p c bs j r e l b =
        let q = take_past p c bs j l in
        let w : List ℕ = spell b.0 in
        let is : w ≡ p ++ c ∷ (q.0 ++ b.1) = sym b.3 ∙ ap (λ x. x ++ b.1) q.1 ∙ append_assoc p (c ∷ q.0) b.1 in
        let good : read_from step finish fault w start 0 w ≡ Ok (answer b.0) = accepts b.0 b.2 in
        let bad : read_from step finish fault w start 0 w ≡ Err (fault (length p)) =
        ap (read_from step finish fault w start 0) is
        ∙ r w (c ∷ (q.0 ++ b.1))
        ∙ read-onward step finish fault w s (length p) c (q.0 ++ b.1)
        ∙ ap (λ o. onward step finish fault w o (length p) (q.0 ++ b.1)) e in
        let z : ◌≡◌ {A = ℕ} 0 1 = cc in
        omega arith

    stuck : (t : List ℕ) (s : S) (p : List ℕ) (c : ℕ) (bs : List ℕ) → Before s p → Reach s p → p ++ c ∷ bs ≡ t → step s c ≡ None → Longest Lawful spell t (length p)
    stuck t s p c bs b r h e = subst (λ x. Longest Lawful spell x (length p)) h (record {
      within = omega (arith, length-append p (c ∷ bs));
      begins = subst (Begins Lawful spell) (sym (take_at p (c ∷ bs) (length p) refl)) (begun s p b);
      longer = λ j a l g. dead s p c bs j r e a g;
    })

    judged : (t : List ℕ) (s : S) (p bs : List ℕ) → Before s p → Reach s p → p ++ bs ≡ t → Verdict Lawful spell answer fault t (read_from step finish fault t s (length p) bs)
    judged t s p [] b r h = at-end s t (subst (Before s) (sym (append-nil p) ∙ h) b)
    judged t s p (c ∷ bs) b r h =
        subst (Verdict Lawful spell answer fault t) (sym (read-onward step finish fault t s (length p) c bs))
        (go (step s c) refl
        (λ s' e. subst (λ k. Verdict Lawful spell answer fault t (read_from step finish fault t s' k bs)) (length_push p c)
        (judged t s' (p ++ c ∷ []) bs (before_more s s' p c b e) (reach-more s s' p c r e) (append_assoc p (c ∷ []) bs ∙ h))))
      where
        go : (o : Option S) → step s c ≡ o → ((s' : S) → step s c ≡ Some s' → Verdict Lawful spell answer fault t (read_from step finish fault t s' (length p + 1) bs)) → Verdict Lawful spell answer fault t (onward step finish fault t o (length p) bs)
        go None e f = (length p, refl, stuck t s p c bs b r h e)
        go (Some s') e f = f s' e

    complete : (t : List ℕ) (m : M) → Lawful m → t ≡ spell m → read_from step finish fault t start 0 t ≡ Ok (answer m)
    complete t m l e = subst (λ x. read_from step finish fault x start 0 x ≡ Ok (answer m)) (sym e) (accepts m l)

    once : (t : List ℕ) (m n : M) → Lawful m → Lawful n → t ≡ spell m → t ≡ spell n → m ≡ n
    once t m n l k p q =
        let a = complete t m l p in
        let b = complete t n k q in
        let same : answer m ≡ answer n = cc in
        sym (meaning-answer m) ∙ ap meaning same ∙ meaning-answer n

    accepted : (t : List ℕ) (r : Result A StringFault) → Verdict Lawful spell answer fault t r → (a : A) → r ≡ Ok a → (m : M) × Lawful m × (t ≡ spell m) × (a ≡ answer m)
    accepted t r v a e = subst (Verdict Lawful spell answer fault t) e v

    refused : (t : List ℕ) (r : Result A StringFault) → r ≡ read_from step finish fault t start 0 t → Verdict Lawful spell answer fault t r → (e : StringFault) → r ≡ Err e → (k : ℕ) × (e ≡ fault k) × Longest Lawful spell t k × ((m : M) → Lawful m → t ≡ spell m → ⊥)
    refused t r is v e h =
        let w : Verdict Lawful spell answer fault t (Err e) = subst (Verdict Lawful spell answer fault t) h v in (
          w.0,
          w.1,
          w.2,
          λ m l p.
              let a = complete t m l p in
              let z : ◌≡◌ {A = ℕ} 0 1 = cc in
              omega arith,
        )

    pub reads : (t : List ℕ) (r : Result A StringFault) → r ≡ read_from step finish fault t start 0 t → Reads Lawful spell answer fault t r
    reads t r is =
        let v : Verdict Lawful spell answer fault t r = subst (Verdict Lawful spell answer fault t) (sym is) (judged t start [] t before-none (λ w rest. refl) refl) in
        record {
          sound = accepted t r v;
          complete = λ m l e. is ∙ complete t m l e;
          once = once t;
          refused = refused t r is v;
        }
