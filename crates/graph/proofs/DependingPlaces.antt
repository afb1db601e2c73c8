-- All dependencies of a graph in file order, and those of one name among them.
use Rattle.std.proofs.Common.{◌≡◌, ℕ, zero, suc, ◌+◌, ◌-◌, ◌<◌, ◌≤◌, Bool, true, false, cond, ◌&&◌, eqb, List, [], ◌∷◌, ◌++◌, map, length, get_or, sym, refl, ap, ◌∙◌, ⊎_elim, arith}
use Rattle.std.proofs.lemmas.List.{append-nil, append_assoc, length-append, length-map, get_or_append_left, get_or-append-add, get_or-map}
use Rattle.std.proofs.lemmas.Bool.{eq-eqb, eqb-true, cases_Bool, cases_lt}
use Rattle.std.specs.Str.{bytes_eq}
use Rattle.records.specs.Graphs.{Dependency, Graph}
use Rattle.graph.specs.Depending.{Depending, owned, depending}
use Rattle.graph.specs.Directory.{no_depending}
use Rattle.graph.specs.Law.{dependencies_in, dependency_count}
use Rattle.graph.specs.Namesakes.{among, namesakes}
use Rattle.graph.specs.Places.{dependencies_of, dependencies_before, no_dependency}
use Rattle.graph.specs.Rules.{each, when}

pub depending-length : (p : ℕ) (g : Graph) → length (depending p g) ≡ dependency_count g
depending-length p [] = refl
depending-length p (a ∷ g) = omega (arith, length-append (map (owned p) (dependencies_in a.declarations)) (depending (p + 1) g), length-map (dependencies_in a.declarations) (owned p), depending-length (p + 1) g)

-- dependency i of all is one of its package
pub depending-at : (p : ℕ) (g : Graph) (i : ℕ) → i < length (depending p g) → (q : ℕ) × (k : ℕ) × (k < length (dependencies_of g q)) × (i ≡ dependencies_before g q + k) × (get_or (depending p g) i no_depending ≡ owned (p + q) (get_or (dependencies_of g q) k no_dependency))
depending-at p [] i l = absurd (omega arith)
depending-at p (a ∷ g) i l =
    let ds = dependencies_in a.declarations in
    let mine = map (owned p) ds in
    let n = length-map ds (owned p) in
    ⊎_elim
    (λ (w : i < length mine).
    let o : p ≡ p + 0 = omega arith in
    (0, i, omega arith, omega arith, get_or_append_left mine (depending (p + 1) g) no_depending i w ∙ get_or-map (owned p) ds i no_dependency no_depending (omega arith) ∙ ap (λ r. owned r (get_or ds i no_dependency)) o))
    (λ (w : length mine ≤ i).
    let j : ℕ = i - length mine in
    let h = depending-at (p + 1) g j (omega (arith, length-append mine (depending (p + 1) g))) in
    let c : i ≡ length mine + j = omega arith in
    let o : (p + 1) + h.0 ≡ p + suc h.0 = omega arith in
    (suc h.0, h.1, h.2, omega (arith, h.3), ap (λ x. get_or (mine ++ depending (p + 1) g) x no_depending) c ∙ get_or-append-add mine (depending (p + 1) g) j no_depending ∙ h.4 ∙ ap (λ r. owned r (get_or (dependencies_of g h.0) h.1 no_dependency)) o))
    (cases_lt i (length mine))

module _ (n : List ℕ) where
  -- a dependency of the name, with its local number
  abbrev one : ℕ → ℕ → Dependency → List (ℕ × Dependency)
  one b k d = when (bytes_eq d.name n) (b + k, d)

  -- those of package p, before others
  own-among : (p b k : ℕ) (ds : List Dependency) (rest : List Depending) → among p n (b + k) (map (owned p) ds ++ rest) ≡ each (one b) k ds ++ among p n ((b + k) + length ds) rest
  own-among p b k [] rest = let z : b + k ≡ (b + k) + 0 = omega arith in ap (λ i. among p n i rest) z
  own-among p b k (d ∷ ds) rest =
      let z : (b + k) + 1 ≡ b + (k + 1) = omega arith in
      let e : (b + (k + 1)) + length ds ≡ (b + k) + suc (length ds) = omega arith in
      let tail = ap (λ i. among p n i (map (owned p) ds ++ rest)) z ∙ own-among p b (k + 1) ds rest ∙ ap (λ i. each (one b) (k + 1) ds ++ among p n i rest) e in
      go (eqb p p) (eq-eqb p p refl) (bytes_eq d.name n) _ _ tail ∙ sym (append_assoc (one b k d) (each (one b) (k + 1) ds) _)
    where
      go : (s : Bool) → s ≡ true → (t : Bool) (xs ys : List (ℕ × Dependency)) → xs ≡ ys → cond (s && t) ((b + k, d) ∷ xs) xs ≡ when t (b + k, d) ++ ys
      go true q true xs ys e = ap (λ zs. (b + k, d) ∷ zs) e
      go true q false xs ys e = e
      go false q t xs ys e = absurd (let z : ◌≡◌ {A = ℕ} 0 1 = cc in omega arith)

  -- those of another package
  other-among : (p q i : ℕ) (ds : List Dependency) (rest : List Depending) → eqb q p ≡ false → among p n i (map (owned q) ds ++ rest) ≡ among p n (i + length ds) rest
  other-among p q i [] rest f = let z : i ≡ i + 0 = omega arith in ap (λ j. among p n j rest) z
  other-among p q i (d ∷ ds) rest f =
      let z : (i + 1) + length ds ≡ i + suc (length ds) = omega arith in
      go (eqb q p) f (bytes_eq d.name n) _ _ (other-among p q (i + 1) ds rest f ∙ ap (λ j. among p n j rest) z)
    where
      go : (s : Bool) → s ≡ false → (t : Bool) (xs ys : List (ℕ × Dependency)) → xs ≡ ys → cond (s && t) ((i, d) ∷ xs) xs ≡ ys
      go false q t xs ys e = e
      go true q t xs ys e = absurd (let z : ◌≡◌ {A = ℕ} 0 1 = cc in omega arith)

  apart : (p q : ℕ) → (q ≡ p → ⊥) → eqb q p ≡ false
  apart p q f = ⊎_elim (λ (e : eqb q p ≡ true). absurd (f (eqb-true q p e))) (λ (e : eqb q p ≡ false). e) (cases_Bool (eqb q p))

  -- later packages have none of an earlier one
  none-among : (p q i : ℕ) (g : Graph) → p < q → among p n i (depending q g) ≡ []
  none-among p q i [] l = refl
  none-among p q i (a ∷ g) l = other-among p q i (dependencies_in a.declarations) (depending (q + 1) g) (apart p q (λ e. omega arith)) ∙ none-among p (q + 1) _ g (omega arith)

  depending-among : (q r i : ℕ) (g : Graph) → among (q + r) n i (depending q g) ≡ each (one (i + dependencies_before g r)) 0 (dependencies_of g r)
  depending-among q r i [] = refl
  depending-among q zero i (a ∷ g) =
      let ds = dependencies_in a.declarations in
      let o : q + 0 ≡ q = omega arith in
      let z : i ≡ (i + 0) + 0 = omega arith in
      ap (λ p. among p n i (depending q (a ∷ g))) o
      ∙ ap (λ j. among q n j (depending q (a ∷ g))) z
      ∙ own-among q (i + 0) 0 ds (depending (q + 1) g)
      ∙ ap (λ ys. each (one (i + 0)) 0 ds ++ ys) (none-among q (q + 1) _ g (omega arith))
      ∙ append-nil (each (one (i + 0)) 0 ds)
  depending-among q (suc r) i (a ∷ g) =
      let ds = dependencies_in a.declarations in
      let o : q + suc r ≡ (q + 1) + r = omega arith in
      let z : (i + length ds) + dependencies_before g r ≡ i + (length ds + dependencies_before g r) = omega arith in
      other-among (q + suc r) q i ds (depending (q + 1) g) (apart (q + suc r) q (λ e. omega arith))
      ∙ ap (λ p. among p n (i + length ds) (depending (q + 1) g)) o
      ∙ depending-among (q + 1) r (i + length ds) g
      ∙ ap (λ b. each (one b) 0 (dependencies_of g r)) z

-- all of them are those of the package
pub all-namesakes : (g : Graph) (p : ℕ) (n : List ℕ) → among p n (length g + 0) (depending 0 g) ≡ namesakes g p n
all-namesakes g p n =
    let o : p ≡ 0 + p = omega arith in
    let z : (k : ℕ) → ((length g + 0) + dependencies_before g p) + k ≡ length g + (dependencies_before g p + k) = λ k. omega arith in
    ap (λ q. among q n (length g + 0) (depending 0 g)) o
    ∙ depending-among n 0 p (length g + 0) g
    ∙ (λ i. each (λ k d. when (bytes_eq d.name n) (z k i, d)) 0 (dependencies_of g p))
