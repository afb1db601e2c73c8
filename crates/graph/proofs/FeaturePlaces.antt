-- A feature's number in the index tells its place in its package.
use Rattle.std.proofs.Common.{◌≡◌, ℕ, zero, suc, ◌+◌, ◌-◌, ◌<◌, ◌≤◌, Bool, true, false, cond, ◌&&◌, eqb, ltb, List, [], ◌∷◌, ◌++◌, length, get_or, is_some, Some, None, Option, sym, refl, ap, ◌∙◌, ⊎_elim, arith, option_map}
use Rattle.std.proofs.ByRecursion.{All-get_or}
use Rattle.std.proofs.lemmas.Slice.Eq.{bytes_eq-Decides}
use Rattle.std.proofs.lemmas.List.Quantifiers.{position-Some}
use Rattle.std.proofs.lemmas.List.Sums.{position_or_len_is, fails_before_first}
use Rattle.std.proofs.lemmas.List.{length-append, get_or_append_left, get_or-append-add}
use Rattle.std.proofs.lemmas.Bool.{cond-true, cond-false, lt-ltb, le-ltb, eqb-true, eq-eqb, and_parts, cases_Bool, cases_lt}
use Rattle.std.specs.List.{AllByRecursion, position_or_len}
use Rattle.std.specs.Str.{bytes_eq}
use Rattle.records.specs.Graphs.{Feature, Declaration, dependency, feature, Graph}
use Rattle.graph.specs.declared.index.IndexEntry.{IndexEntry}
use Rattle.graph.specs.Keys.{Key, is_key}
use Rattle.graph.specs.Buckets.{key_of, blank, entry_at, keys_of}
use Rattle.graph.specs.Law.{features_in, dependency_count, Differ, LawfulPackage}
use Rattle.graph.specs.Gathered.{keys_in, keys_from}
use Rattle.graph.specs.Places.{feat, features_of, features_before, number, no_feature}
use Rattle.graph.specs.Rules.{place_of}
use Rattle.graph.proofs.Links.{Finds, keys_length, keys-at}

in-length : (p : ℕ) (ps : List Declaration) → length (keys_in p ps) ≡ length (features_in ps)
in-length p [] = refl
in-length p (dependency d ∷ ps) = in-length p ps
in-length p (feature f ∷ ps) = ap suc (in-length p ps)

in-at : (p : ℕ) (ps : List Declaration) (j : ℕ) (d : Key) → j < length (features_in ps) → get_or (keys_in p ps) j d ≡ record { owner = p; name = (get_or (features_in ps) j no_feature).name }
in-at p [] j d l = absurd (omega arith)
in-at p (dependency x ∷ ps) j d l = in-at p ps j d l
in-at p (feature f ∷ ps) zero d l = refl
in-at p (feature f ∷ ps) (suc j) d l = in-at p ps j d (omega arith)

-- the key of feature j of package q
pub key-at : (p : ℕ) (g : Graph) (q j : ℕ) (d : Key) → j < length (features_of g q) → (features_before g q + j < length (keys_from p g)) × (get_or (keys_from p g) (features_before g q + j) d ≡ record { owner = p + q; name = (get_or (features_of g q) j no_feature).name })
key-at p [] q j d l = absurd (omega arith)
key-at p (a ∷ g) zero j d l =
    let n = in-length p a.declarations in
    let m : 0 + j < length (keys_in p a.declarations) = omega arith in
    let z : 0 + j ≡ j = omega arith in
    let o : p ≡ p + 0 = omega arith in (
      omega (arith, length-append (keys_in p a.declarations) (keys_from (p + 1) g)),
      get_or_append_left (keys_in p a.declarations) (keys_from (p + 1) g) d (0 + j) m ∙ ap (λ i. get_or (keys_in p a.declarations) i d) z ∙ in-at p a.declarations j d l ∙ ap (λ i. record { owner = i; name = (get_or (features_in a.declarations) j no_feature).name }) o,
    )
key-at p (a ∷ g) (suc q) j d l =
    let n = in-length p a.declarations in
    let h = key-at (p + 1) g q j d l in
    let e : (length (features_in a.declarations) + features_before g q) + j ≡ length (keys_in p a.declarations) + (features_before g q + j) = omega arith in
    let o : (p + 1) + q ≡ p + suc q = omega arith in (
      omega (arith, h.0, length-append (keys_in p a.declarations) (keys_from (p + 1) g)),
      ap (λ i. get_or (keys_in p a.declarations ++ keys_from (p + 1) g) i d) e ∙ get_or-append-add (keys_in p a.declarations) (keys_from (p + 1) g) (features_before g q + j) d ∙ h.1 ∙ ap (λ i. record { owner = i; name = (get_or (features_of g q) j no_feature).name }) o,
    )

-- keys from package p on are of p at least
least : (p : ℕ) (g : Graph) (k : ℕ) (d : Key) → k < length (keys_from p g) → p ≤ (get_or (keys_from p g) k d).owner
least p [] k d l = absurd (omega arith)
least p (a ∷ g) k d l =
    let n = in-length p a.declarations in
    ⊎_elim
    (λ (m : k < length (keys_in p a.declarations)).
    let e : (get_or (keys_in p a.declarations ++ keys_from (p + 1) g) k d).owner ≡ p = ap (λ x. x.owner) (get_or_append_left (keys_in p a.declarations) (keys_from (p + 1) g) d k m ∙ in-at p a.declarations k d (omega arith)) in
    omega arith)
    (λ (m : length (keys_in p a.declarations) ≤ k).
    let i : ℕ = k - length (keys_in p a.declarations) in
    let c : k ≡ length (keys_in p a.declarations) + i = omega arith in
    let e : get_or (keys_in p a.declarations ++ keys_from (p + 1) g) k d ≡ get_or (keys_from (p + 1) g) i d = ap (λ x. get_or (keys_in p a.declarations ++ keys_from (p + 1) g) x d) c ∙ get_or-append-add (keys_in p a.declarations) (keys_from (p + 1) g) i d in
    omega (arith, ap (λ x. x.owner) e, least (p + 1) g i d (omega (arith, length-append (keys_in p a.declarations) (keys_from (p + 1) g)))))
    (cases_lt k (length (keys_in p a.declarations)))

-- a key of package q is that of one of its features
pub key-of : (p : ℕ) (g : Graph) (q k : ℕ) (d : Key) → k < length (keys_from p g) → (get_or (keys_from p g) k d).owner ≡ p + q → (j : ℕ) × (j < length (features_of g q)) × (k ≡ features_before g q + j)
key-of p [] q k d l e = absurd (omega arith)
key-of p (a ∷ g) q k d l e =
    ⊎_elim
    (λ (m : k < length (keys_in p a.declarations)). front q m (ap (λ x. x.owner) (sym (get_or_append_left (keys_in p a.declarations) (keys_from (p + 1) g) d k m ∙ in-at p a.declarations k d (omega (arith, in-length p a.declarations)))) ∙ e))
    (λ (m : length (keys_in p a.declarations) ≤ k).
    let i : ℕ = k - length (keys_in p a.declarations) in
    let c : k ≡ length (keys_in p a.declarations) + i = omega arith in
    let s : i < length (keys_from (p + 1) g) = omega (arith, length-append (keys_in p a.declarations) (keys_from (p + 1) g)) in
    let x : get_or (keys_in p a.declarations ++ keys_from (p + 1) g) k d ≡ get_or (keys_from (p + 1) g) i d = ap (λ y. get_or (keys_in p a.declarations ++ keys_from (p + 1) g) y d) c ∙ get_or-append-add (keys_in p a.declarations) (keys_from (p + 1) g) i d in
    back q i c s (λ r z. key-of (p + 1) g r i d s z) (ap (λ y. y.owner) (sym x) ∙ e))
    (cases_lt k (length (keys_in p a.declarations)))
  where
    front : (r : ℕ) → k < length (keys_in p a.declarations) → p ≡ p + r → (j : ℕ) × (j < length (features_of (a ∷ g) r)) × (k ≡ features_before (a ∷ g) r + j)
    front zero m o = (k, omega (arith, in-length p a.declarations), omega arith)
    front (suc r) m o = absurd (omega arith)

    back : (r i : ℕ) → k ≡ length (keys_in p a.declarations) + i → i < length (keys_from (p + 1) g) → ((t : ℕ) → (get_or (keys_from (p + 1) g) i d).owner ≡ (p + 1) + t → (j : ℕ) × (j < length (features_of g t)) × (i ≡ features_before g t + j)) → (get_or (keys_from (p + 1) g) i d).owner ≡ p + r → (j : ℕ) × (j < length (features_of (a ∷ g) r)) × (k ≡ features_before (a ∷ g) r + j)
    back zero i c s more o = absurd (omega (arith, least (p + 1) g i d s))
    back (suc r) i c s more o =
        let z : (get_or (keys_from (p + 1) g) i d).owner ≡ (p + 1) + r = omega arith in
        let h = more r z in
        (h.0, h.1, omega (arith, h.2, in-length p a.declarations))

-- the test that finds a name among features; a name found at two places is one of features that do not differ
abbrev named : List ℕ → Feature → Bool
named n f = bytes_eq f.name n

differ-before : (fs : List Feature) (n : List ℕ) (k j : ℕ) → k < j → j < length fs → Differ fs → (get_or fs k no_feature).name ≡ n → (get_or fs j no_feature).name ≡ n → ⊥
differ-before [] n k j below l d e m = absurd (omega arith)
differ-before (f ∷ fs) n k zero below l d e m = absurd (omega arith)
differ-before (f ∷ fs) n zero (suc j) below l d e m = All-get_or (λ h. h.name ≡ f.name → ⊥) fs j no_feature (omega arith) d.0 (m ∙ sym e)
differ-before (f ∷ fs) n (suc k) (suc j) below l d e m = differ-before fs n k j (omega arith) (omega arith) d.1 e m

-- the place of a name among features that differ
pub place-some : (fs : List Feature) (n : List ℕ) (j : ℕ) → j < length fs → bytes_eq (get_or fs j no_feature).name n ≡ true → Differ fs → place_of fs n ≡ Some j
place-some fs n j l e d =
    let first : position_or_len (named n) fs ≡ j = position_or_len_is (named n) fs j no_feature (omega arith)
    (λ k below. ⊎_elim
    (λ (t : named n (get_or fs k no_feature) ≡ true). absurd (differ-before fs n k j below l d ((bytes_eq-Decides (get_or fs k no_feature).name n).0 t) ((bytes_eq-Decides (get_or fs j no_feature).name n).0 e)))
    (λ (t : named n (get_or fs k no_feature) ≡ false). t)
    (cases_Bool (named n (get_or fs k no_feature))))
    (λ _. e) in
    ap (λ i. cond (ltb i (length fs)) (Some i) None) first ∙ cond-true _ _ _ (lt-ltb j (length fs) l)

pub place_none : (fs : List Feature) (n : List ℕ) → ((j : ℕ) → j < length fs → bytes_eq (get_or fs j no_feature).name n ≡ false) → place_of fs n ≡ None
place_none fs n h =
    let first : position_or_len (named n) fs ≡ length fs = position_or_len_is (named n) fs (length fs) no_feature (omega arith) (λ k l. h k l) (λ l. absurd (omega arith)) in
    ap (λ i. cond (ltb i (length fs)) (Some i) None) first ∙ cond-false _ _ _ (le-ltb (length fs) (length fs) (omega arith))

-- a place that a name has among features is that of a feature of this name
pub place-name : (fs : List Feature) (n : List ℕ) (j : ℕ) → place_of fs n ≡ Some j → (j < length fs) × ((get_or fs j no_feature).name ≡ n)
place-name fs n j e =
    let h = position-Some (named n) fs j no_feature e in
    (h.0, (bytes_eq-Decides (get_or fs j no_feature).name n).0 h.1)

-- a name that a feature has, has a place
pub name-placed : (fs : List Feature) (n : List ℕ) (j : ℕ) → j < length fs → (get_or fs j no_feature).name ≡ n → is_some (place_of fs n) ≡ true
name-placed fs n j l e =
    ⊎_elim
    (λ (m : position_or_len (named n) fs < length fs). ap is_some (cond-true _ _ _ (lt-ltb (position_or_len (named n) fs) (length fs) m)))
    (λ (m : length fs ≤ position_or_len (named n) fs). absurd (true-false (sym ((bytes_eq-Decides (get_or fs j no_feature).name n).1 e) ∙ fails_before_first (named n) fs j no_feature (omega arith))))
    (cases_lt (position_or_len (named n) fs) (length fs))
  where
    true-false : true ≡ false → ⊥
    true-false h = let z : ◌≡◌ {A = ℕ} 0 1 = cc in omega arith

pub features-differ : (g : Graph) (q : ℕ) → AllByRecursion LawfulPackage g → Differ (features_of g q)
features-differ [] q l = tt
features-differ (a ∷ g) zero l = l.0.2
features-differ (a ∷ g) (suc q) l = features-differ g q l.1

-- what a search in the index finds, as the number of the item
pub finds-item : (entries : List IndexEntry) (n : ℕ) (g : Graph) (q : ℕ) (name : List ℕ) (r : Option ℕ) → n ≤ length entries → keys_of entries n ≡ keys_from 0 g → AllByRecursion LawfulPackage g → Finds entries n q name r → option_map (λ k. (length g + dependency_count g) + k) r ≡ option_map (λ j. number g (feat q j)) (place_of (features_of g q) name)
finds-item entries n g q name None l e law f =
    ap (option_map (λ j. number g (feat q j))) (sym (place_none (features_of g q) name (λ j m.
    let h = key-at 0 g q j (key_of blank) m in
    let w : features_before g q + j < n = omega (arith, h.0, ap length e, keys_length entries n l) in
    let k : key_of (entry_at entries (features_before g q + j)) ≡ record { owner = 0 + q; name = (get_or (features_of g q) j no_feature).name } =
    sym (keys-at entries n (features_before g q + j) l w) ∙ ap (λ ks. get_or ks (features_before g q + j) (key_of blank)) e ∙ h.1 in
    let z : 0 + q ≡ q = omega arith in
    let t : (eqb (0 + q) q && bytes_eq (get_or (features_of g q) j no_feature).name name) ≡ false = ap (is_key q name) (sym k) ∙ f (features_before g q + j) w in
    ap (λ x. x && bytes_eq (get_or (features_of g q) j no_feature).name name) (sym (eq-eqb (0 + q) q z)) ∙ t)))
finds-item entries n g q name (Some k) l e law f =
    let w : k < n = f.0 in
    let is : get_or (keys_from 0 g) k (key_of blank) ≡ key_of (entry_at entries k) = ap (λ ks. get_or ks k (key_of blank)) (sym e) ∙ keys-at entries n k l w in
    let b = and_parts (eqb (entry_at entries k).owner q) (bytes_eq (key_of (entry_at entries k)).name name) f.1 in
    let o : (entry_at entries k).owner ≡ q = eqb-true (entry_at entries k).owner q b.0 in
    let own : (get_or (keys_from 0 g) k (key_of blank)).owner ≡ 0 + q = ap (λ x. x.owner) is ∙ o ∙ (let z : q ≡ 0 + q = omega arith in z) in
    let m : k < length (keys_from 0 g) = omega (arith, ap length e, keys_length entries n l) in
    let h = key-of 0 g q k (key_of blank) m own in
    let at = key-at 0 g q h.0 (key_of blank) h.1 in
    let same : bytes_eq (get_or (features_of g q) h.0 no_feature).name name ≡ true =
    ap (λ x. bytes_eq x.name name) (sym at.1 ∙ ap (λ i. get_or (keys_from 0 g) i (key_of blank)) (sym h.2) ∙ is) ∙ b.1 in
    let p : place_of (features_of g q) name ≡ Some h.0 = place-some (features_of g q) name h.0 h.1 same (features-differ g q law) in
    let c : (length g + dependency_count g) + k ≡ number g (feat q h.0) = omega (arith, h.2) in
    ap (λ i. Some i) c ∙ ap (option_map (λ j. number g (feat q j))) (sym p)
