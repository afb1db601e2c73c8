-- Items of a graph and their numbers are one to one.
use Rattle.std.proofs.Common.{◌≡◌, ℕ, zero, suc, ◌+◌, ◌-◌, ◌<◌, ◌≤◌, [], ◌∷◌, length, refl, ap, ⊎_elim, arith}
use Rattle.std.proofs.lemmas.Bool.{cases_lt}
use Rattle.records.specs.Graphs.{Package, Graph}
use Rattle.graph.specs.Law.{dependencies_in, features_in, dependency_count, feature_count}
use Rattle.graph.specs.Places.{ItemPlace, unit, dep, feat, dependencies_of, features_of, dependencies_before, features_before, number, item_count}
use Rattle.rulebook.specs.GraphRules.{Has}

-- parts of the packages of a graph, of either kind, numbered one after the other
abbrev sizes : (Package → ℕ) → Graph → ℕ → ℕ
sizes w [] p = 0
sizes w (a ∷ g) zero = w a
sizes w (a ∷ g) (suc p) = sizes w g p

abbrev before : (Package → ℕ) → Graph → ℕ → ℕ
before w [] p = 0
before w (a ∷ g) zero = 0
before w (a ∷ g) (suc p) = w a + before w g p

abbrev total : (Package → ℕ) → Graph → ℕ
total w [] = 0
total w (a ∷ g) = w a + total w g

module _ (w : Package → ℕ) where
  part_low : (g : Graph) (p k : ℕ) → k < sizes w g p → before w g p + k < total w g
  part_low [] p k h = absurd (omega arith)
  part_low (a ∷ g) zero k h = omega arith
  part_low (a ∷ g) (suc p) k h = omega (arith, part_low g p k h)

  part_same : (g : Graph) (p q k j : ℕ) → k < sizes w g p → j < sizes w g q → before w g p + k ≡ before w g q + j → (p ≡ q) × (k ≡ j)
  part_same [] p q k j h i e = absurd (omega arith)
  part_same (a ∷ g) zero zero k j h i e = (refl, omega arith)
  part_same (a ∷ g) zero (suc q) k j h i e = absurd (omega arith)
  part_same (a ∷ g) (suc p) zero k j h i e = absurd (omega arith)
  part_same (a ∷ g) (suc p) (suc q) k j h i e = let z = part_same g p q k j h i (omega arith) in (ap suc z.0, z.1)

  part-all : (g : Graph) (n : ℕ) → n < total w g → (p : ℕ) × (k : ℕ) × (k < sizes w g p) × (before w g p + k ≡ n)
  part-all [] n h = absurd (omega arith)
  part-all (a ∷ g) n h = ⊎_elim
      (λ (l : n < w a). (0, n, l, omega arith))
      (λ (l : w a ≤ n). let (p, k, low, e) = part-all g (n - w a) (omega arith) in (suc p, k, low, omega arith))
      (cases_lt n (w a))

abbrev dependencies : Package → ℕ
dependencies a = length (dependencies_in a.declarations)

abbrev features : Package → ℕ
features a = length (features_in a.declarations)

-- these are the counts and sums of the definitions
dependency-sizes : (g : Graph) (p : ℕ) → (sizes dependencies g p ≡ length (dependencies_of g p)) × (before dependencies g p ≡ dependencies_before g p)
dependency-sizes [] p = (refl, refl)
dependency-sizes (a ∷ g) zero = (refl, refl)
dependency-sizes (a ∷ g) (suc p) = let z = dependency-sizes g p in (z.0, ap (λ n. dependencies a + n) z.1)

feature-sizes : (g : Graph) (p : ℕ) → (sizes features g p ≡ length (features_of g p)) × (before features g p ≡ features_before g p)
feature-sizes [] p = (refl, refl)
feature-sizes (a ∷ g) zero = (refl, refl)
feature-sizes (a ∷ g) (suc p) = let z = feature-sizes g p in (z.0, ap (λ n. features a + n) z.1)

totals : (g : Graph) → (total dependencies g ≡ dependency_count g) × (total features g ≡ feature_count g)
totals [] = (refl, refl)
totals (a ∷ g) = let z = totals g in (ap (λ n. dependencies a + n) z.0, ap (λ n. features a + n) z.1)

-- an item that the graph has, in these terms
abbrev At : Graph → ItemPlace → Type 0
At g (unit p) = p < length g
At g (dep p k) = k < sizes dependencies g p
At g (feat p k) = k < sizes features g p

at : (g : Graph) (x : ItemPlace) → Has g x → At g x
at g (unit p) h = h
at g (dep p k) h = omega (arith, (dependency-sizes g p).0)
at g (feat p k) h = omega (arith, (feature-sizes g p).0)

pub number-low : (g : Graph) (x : ItemPlace) → Has g x → number g x < item_count g
number-low g (unit p) h = omega arith
number-low g (dep p k) h = omega (arith, part_low dependencies g p k (at g (dep p k) h), (dependency-sizes g p).1, (totals g).0)
number-low g (feat p k) h = omega (arith, part_low features g p k (at g (feat p k) h), (feature-sizes g p).1, (totals g).1)

dependency-low : (g : Graph) (p k : ℕ) → Has g (dep p k) → dependencies_before g p + k < dependency_count g
dependency-low g p k h = omega (arith, part_low dependencies g p k (at g (dep p k) h), (dependency-sizes g p).1, (totals g).0)

pub number_same : (g : Graph) (x y : ItemPlace) → Has g x → Has g y → number g x ≡ number g y → x ≡ y
number_same g (unit p) (unit q) h i e = ap unit e
number_same g (unit p) (dep q j) h i e = absurd (omega arith)
number_same g (unit p) (feat q j) h i e = absurd (omega arith)
number_same g (dep p k) (unit q) h i e = absurd (omega arith)
number_same g (dep p k) (dep q j) h i e =
    let z = part_same dependencies g p q k j (at g (dep p k) h) (at g (dep q j) i) (omega (arith, (dependency-sizes g p).1, (dependency-sizes g q).1)) in
    let a = z.0 in let b = z.1 in cc
number_same g (dep p k) (feat q j) h i e = absurd (omega (arith, dependency-low g p k h))
number_same g (feat p k) (unit q) h i e = absurd (omega arith)
number_same g (feat p k) (dep q j) h i e = absurd (omega (arith, dependency-low g q j i))
number_same g (feat p k) (feat q j) h i e =
    let z = part_same features g p q k j (at g (feat p k) h) (at g (feat q j) i) (omega (arith, (feature-sizes g p).1, (feature-sizes g q).1)) in
    let a = z.0 in let b = z.1 in cc

pub number-all : (g : Graph) (l : ℕ) → l < item_count g → (x : ItemPlace) × Has g x × (number g x ≡ l)
number-all g l h = ⊎_elim
    (λ (a : l < length g). (unit l, a, refl))
    (λ (a : length g ≤ l). ⊎_elim
    (λ (b : l < length g + dependency_count g).
    let (p, k, low, e) = part-all dependencies g (l - length g) (omega (arith, (totals g).0)) in
    (dep p k, omega (arith, (dependency-sizes g p).0), omega (arith, (dependency-sizes g p).1)))
    (λ (b : length g + dependency_count g ≤ l).
    let (p, k, low, e) = part-all features g (l - (length g + dependency_count g)) (omega (arith, (totals g).1)) in
    (feat p k, omega (arith, (feature-sizes g p).0), omega (arith, (feature-sizes g p).1)))
    (cases_lt l (length g + dependency_count g)))
    (cases_lt l (length g))

-- who has a dependency or a feature is a package
pub dependency-owner : (g : Graph) (p k : ℕ) → k < length (dependencies_of g p) → p < length g
dependency-owner [] p k h = absurd (omega arith)
dependency-owner (a ∷ g) zero k h = omega arith
dependency-owner (a ∷ g) (suc p) k h = omega (arith, dependency-owner g p k h)
