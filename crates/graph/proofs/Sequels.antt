-- What may follow where a reading stands: parts of the package at hand, and packages.
use Rattle.std.proofs.Common.{◌≡◌, ℕ, zero, suc, ◌+◌, ◌-◌, ◌<◌, ◌≤◌, Bool, true, false, eqb, List, [], ◌∷◌, ◌++◌, length, sym, refl, ap, ◌∙◌, ⊎_elim, append_assoc, arith}
use Rattle.std.proofs.ByRecursion.{All-append}
use Rattle.std.proofs.lemmas.Slice.Eq.{bytes_eq-Decides}
use Rattle.std.proofs.lemmas.List.{length_push}
use Rattle.std.proofs.lemmas.Bool.{both_ways, cases_Bool, eq-eqb, ne_eqb, and_parts, and_from, and_left, or_parts, or_from}
use Rattle.std.specs.List.{flat_map, AllByRecursion}
use Rattle.std.specs.Str.{bytes_eq}
use Rattle.text.specs.Names.{Name}
use Rattle.records.specs.Graphs.{Dependency, Feature, Declaration, dependency, feature, Package, Graph}
use Rattle.records.specs.Encoding.{declaration_bytes, package_bytes, header_bytes, end_bytes, encode, LawfulDependency, LawfulFeature}
use Rattle.graph.specs.Keys.{Key, is_key, has_key}
use Rattle.graph.specs.Limits.{max_packages, max_dependencies, max_features}
use Rattle.graph.specs.Law.{dependencies_in, features_in, dependency_count, feature_count, LawfulDeclaration, Differ, LawfulPackage}

abbrev pub key : ℕ → List ℕ → Key
key owner name = record { owner = owner; name = name }

-- of one owner, keys are the same just if the names are
other_name : (o : ℕ) (n m : List ℕ) → is_key o n (key o m) ≡ false → n ≡ m → ⊥
other_name o n m h e = both_ways (is_key o n (key o m)) h (and_from (eqb o o) (bytes_eq m n) (eq-eqb o o refl) ((bytes_eq-Decides m n).1 (sym e)))

name-other : (o : ℕ) (n m : List ℕ) → (n ≡ m → ⊥) → is_key o n (key o m) ≡ false
name-other o n m f = ⊎_elim
    (λ (e : is_key o n (key o m) ≡ true). absurd (f (sym ((bytes_eq-Decides m n).0 (and_parts (eqb o o) (bytes_eq m n) e).1))))
    (λ (e : is_key o n (key o m) ≡ false). e)
    (cases_Bool (is_key o n (key o m)))

-- a name is new among the keys and one more just if it is new among them and is not that one
push-new : (o : ℕ) (n : List ℕ) (ks : List Key) (k : Key) → has_key o n ks ≡ false → is_key o n k ≡ false → has_key o n (ks ++ k ∷ []) ≡ false
push-new o n [] k h e = or_from (is_key o n k) false e refl
push-new o n (j ∷ ks) k h e =
    let p = or_parts (is_key o n j) (has_key o n ks) h in
    or_from (is_key o n j) (has_key o n (ks ++ k ∷ [])) p.0 (push-new o n ks k p.1 e)

new-push : (o : ℕ) (n : List ℕ) (ks : List Key) (k : Key) → has_key o n (ks ++ k ∷ []) ≡ false → (has_key o n ks ≡ false) × (is_key o n k ≡ false)
new-push o n [] k h = (refl, (or_parts (is_key o n k) false h).0)
new-push o n (j ∷ ks) k h =
    let p = or_parts (is_key o n j) (has_key o n (ks ++ k ∷ [])) h in
    let q = new-push o n ks k p.1 in
    (or_from (is_key o n j) (has_key o n ks) p.0 q.0, q.1)

-- every key is of a package below p
abbrev pub Owners : ℕ → List Key → Type 0
Owners p ks = AllByRecursion (λ k. k.owner < p) ks

owners-new : (p o : ℕ) (n : List ℕ) (ks : List Key) → p ≤ o → Owners p ks → has_key o n ks ≡ false
owners-new p o n [] l h = refl
owners-new p o n (k ∷ ks) l h =
    or_from (is_key o n k) (has_key o n ks) (and_left (eqb k.owner o) (bytes_eq k.name n) (ne_eqb k.owner o (λ e. omega (arith, h.0)))) (owners-new p o n ks l h.1)

owners-more : (p : ℕ) (ks : List Key) → Owners p ks → Owners (p + 1) ks
owners-more p [] h = tt
owners-more p (k ∷ ks) h = (omega (arith, h.0), owners-more p ks h.1)

-- every feature has a name that is new among the keys
abbrev New : ℕ → List Key → List Feature → Type 0
New o ks fs = AllByRecursion (λ f. has_key o f.name ks ≡ false) fs

-- no feature has this name
abbrev Without : List ℕ → List Feature → Type 0
Without m fs = AllByRecursion (λ h. h.name ≡ m → ⊥) fs

all_new : (p o : ℕ) (ks : List Key) (fs : List Feature) → p ≤ o → Owners p ks → New o ks fs
all_new p o ks [] l h = tt
all_new p o ks (f ∷ fs) l h = (owners-new p o f.name ks l h, all_new p o ks fs l h)

all_push : (o : ℕ) (m : List ℕ) (ks : List Key) (fs : List Feature) → New o ks fs → Without m fs → New o (ks ++ key o m ∷ []) fs
all_push o m ks [] n w = tt
all_push o m ks (f ∷ fs) n w = (push-new o f.name ks (key o m) n.0 (name-other o f.name m w.0), all_push o m ks fs n.1 w.1)

push-all : (o : ℕ) (m : List ℕ) (ks : List Key) (fs : List Feature) → New o (ks ++ key o m ∷ []) fs → New o ks fs × Without m fs
push-all o m ks [] n = (tt, tt)
push-all o m ks (f ∷ fs) n =
    let p = new-push o f.name ks (key o m) n.0 in
    let q = push-all o m ks fs n.1 in
    ((p.0, q.0), (other_name o f.name m p.1, q.1))

-- these parts and packages may follow so many packages and dependencies and these features
pub record May (packages dependencies : ℕ) (keys : List Key) (ps : List Declaration) (gs : Graph) : Type 0 where
  pub owned : packages ≡ 0 → ps ≡ []
  pub declarations : AllByRecursion LawfulDeclaration ps
  pub new : New (packages - 1) keys (features_in ps)
  pub apart : Differ (features_in ps)
  pub lawful : AllByRecursion LawfulPackage gs
  pub few_packages : packages + length gs ≤ max_packages
  pub few_dependencies : dependencies + (length (dependencies_in ps) + dependency_count gs) ≤ max_dependencies
  pub few_features : length keys + (length (features_in ps) + feature_count gs) ≤ max_features

-- a record more in front
pub may-end : (p d : ℕ) (ks : List Key) → p ≤ max_packages → d ≤ max_dependencies → length ks ≤ max_features → May p d ks [] []
may-end p d ks a b c = record {
  owned = λ z. refl;
  declarations = tt;
  new = tt;
  apart = tt;
  lawful = tt;
  few_packages = omega arith;
  few_dependencies = omega arith;
  few_features = omega arith;
}

pub may-heads : (p d : ℕ) (ks : List Key) (proc : Bool) (name : List ℕ) (ps : List Declaration) (gs : Graph) → Name name → May (p + 1) d ks ps gs → May p d ks [] (record { proc = proc; name = name; declarations = ps } ∷ gs)
may-heads p d ks proc name ps gs law m = record {
  owned = λ z. refl;
  declarations = tt;
  new = tt;
  apart = tt;
  lawful = ((law, m.declarations, m.apart), m.lawful);
  few_packages = omega (arith, m.few_packages);
  few_dependencies = omega (arith, m.few_dependencies);
  few_features = omega (arith, m.few_features);
}

pub may-dependency : (p d : ℕ) (ks : List Key) (x : Dependency) (ps : List Declaration) (gs : Graph) → 0 < p → LawfulDependency x → May p (d + 1) ks ps gs → May p d ks (dependency x ∷ ps) gs
may-dependency p d ks x ps gs some law m = record {
  owned = λ z. absurd (omega arith);
  declarations = (law, m.declarations);
  new = m.new;
  apart = m.apart;
  lawful = m.lawful;
  few_packages = m.few_packages;
  few_dependencies = omega (arith, m.few_dependencies);
  few_features = m.few_features;
}

pub may-feature : (p d : ℕ) (ks : List Key) (x : Feature) (ps : List Declaration) (gs : Graph) → 0 < p → has_key (p - 1) x.name ks ≡ false → LawfulFeature x → May p d (ks ++ key (p - 1) x.name ∷ []) ps gs → May p d ks (feature x ∷ ps) gs
may-feature p d ks x ps gs some new law m =
    let q = push-all (p - 1) x.name ks (features_in ps) m.new in record {
      owned = λ z. absurd (omega arith);
      declarations = (law, m.declarations);
      new = (new, q.0);
      apart = (q.1, m.apart);
      lawful = m.lawful;
      few_packages = m.few_packages;
      few_dependencies = m.few_dependencies;
      few_features = omega (arith, m.few_features, length_push ks (key (p - 1) x.name));
    }

-- the record in front, and what follows it
pub heads-may : (p d : ℕ) (ks : List Key) (g : Package) (gs : Graph) → Owners p ks → May p d ks [] (g ∷ gs) → (p < max_packages) × Name g.name × May (p + 1) d ks g.declarations gs × Owners (p + 1) ks
heads-may p d ks g gs own m = (
  omega (arith, m.few_packages),
  m.lawful.0.0,
  record {
    owned = λ z. absurd (omega arith);
    declarations = m.lawful.0.1;
    new = all_new p (p + 1 - 1) ks (features_in g.declarations) (omega arith) own;
    apart = m.lawful.0.2;
    lawful = m.lawful.1;
    few_packages = omega (arith, m.few_packages);
    few_dependencies = omega (arith, m.few_dependencies);
    few_features = omega (arith, m.few_features);
  },
  owners-more p ks own,
)

no-part : (x : Declaration) (ps : List Declaration) → x ∷ ps ≡ [] → ⊥
no-part x ps e = let z : ◌≡◌ {A = ℕ} 0 1 = cc in omega arith

-- a part is owned
some-package : (p : ℕ) (x : Declaration) (ps : List Declaration) → (p ≡ 0 → x ∷ ps ≡ []) → 0 < p
some-package zero x ps h = absurd (no-part x ps (h refl))
some-package (suc p) x ps h = omega arith

pub dependency-may : (p d : ℕ) (ks : List Key) (x : Dependency) (ps : List Declaration) (gs : Graph) → May p d ks (dependency x ∷ ps) gs → (0 < p) × (d < max_dependencies) × LawfulDependency x × May p (d + 1) ks ps gs
dependency-may p d ks x ps gs m =
    let some : 0 < p = some-package p (dependency x) ps m.owned in (
      some,
      omega (arith, m.few_dependencies),
      m.declarations.0,
      record {
        owned = λ z. absurd (omega arith);
        declarations = m.declarations.1;
        new = m.new;
        apart = m.apart;
        lawful = m.lawful;
        few_packages = m.few_packages;
        few_dependencies = omega (arith, m.few_dependencies);
        few_features = m.few_features;
      },
    )

pub feature-may : (p d : ℕ) (ks : List Key) (x : Feature) (ps : List Declaration) (gs : Graph) → Owners p ks → May p d ks (feature x ∷ ps) gs → (0 < p) × (length ks < max_features) × (has_key (p - 1) x.name ks ≡ false) × LawfulFeature x × May p d (ks ++ key (p - 1) x.name ∷ []) ps gs × Owners p (ks ++ key (p - 1) x.name ∷ [])
feature-may p d ks x ps gs own m =
    let some : 0 < p = some-package p (feature x) ps m.owned in (
      some,
      omega (arith, m.few_features),
      m.new.0,
      m.declarations.0,
      record {
        owned = λ z. absurd (omega arith);
        declarations = m.declarations.1;
        new = all_push (p - 1) x.name ks (features_in ps) m.new.1 m.apart.0;
        apart = m.apart.1;
        lawful = m.lawful;
        few_packages = m.few_packages;
        few_dependencies = m.few_dependencies;
        few_features = omega (arith, m.few_features, length_push ks (key (p - 1) x.name));
      },
      All-append (λ k. k.owner < p) ks (key (p - 1) x.name ∷ []) own (omega arith, tt),
    )

-- what is left of a package, the packages after it, the end record, and the rest
abbrev pub tail_bytes : List Declaration → Graph → List ℕ → List ℕ
tail_bytes ps gs rest = flat_map declaration_bytes ps ++ (flat_map package_bytes gs ++ (end_bytes ++ rest))

pub part-bytes : (x : Declaration) (ps : List Declaration) (gs : Graph) (rest : List ℕ) → tail_bytes (x ∷ ps) gs rest ≡ declaration_bytes x ++ tail_bytes ps gs rest
part-bytes x ps gs rest = append_assoc (declaration_bytes x) (flat_map declaration_bytes ps) (flat_map package_bytes gs ++ (end_bytes ++ rest))

pub package-bytes : (top : List ℕ) (ps : List Declaration) (gs : Graph) (rest : List ℕ) → ((top ++ flat_map declaration_bytes ps) ++ flat_map package_bytes gs) ++ (end_bytes ++ rest) ≡ top ++ tail_bytes ps gs rest
package-bytes top ps gs rest =
    append_assoc (top ++ flat_map declaration_bytes ps) (flat_map package_bytes gs) (end_bytes ++ rest)
    ∙ append_assoc top (flat_map declaration_bytes ps) (flat_map package_bytes gs ++ (end_bytes ++ rest))

pub graph-bytes : (g : Graph) (rest : List ℕ) → encode g ++ rest ≡ header_bytes ++ tail_bytes [] g rest
graph-bytes g rest = ap (λ z. header_bytes ++ z) (append_assoc (flat_map package_bytes g) end_bytes rest)
