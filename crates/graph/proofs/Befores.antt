-- How many dependencies or features the packages before one have.
use Rattle.std.proofs.Common.{◌≡◌, ℕ, zero, suc, ◌+◌, ◌<◌, ◌≤◌, min, List, [], ◌∷◌, length, refl, ap, ◌∙◌, ⊎_elim, arith}
use Rattle.std.proofs.lemmas.Bool.{cases_lt}
use Rattle.std.proofs.Math.ListN.{get_or-eq_default}
use Rattle.records.specs.Graphs.{Declaration, Graph}
use Rattle.graph.specs.Law.{count_in, count_before}
use Rattle.graph.specs.Places.{empty_package, package_at}

-- a package beyond the last is empty
pub package-beyond : (g : Graph) (p : ℕ) → length g ≤ p → package_at g p ≡ empty_package
package-beyond g p l = get_or-eq_default g empty_package l

module _ {A : Type 0} (chosen : List Declaration → List A) where
  pub before-next : (g : Graph) (p : ℕ) → p < length g → count_before chosen g (p + 1) ≡ count_before chosen g p + length (chosen (package_at g p).declarations)
  before-next [] p l = absurd (omega arith)
  before-next (a ∷ []) zero l = omega arith
  before-next (a ∷ b ∷ g) zero l = omega arith
  before-next (a ∷ g) (suc p) l =
      let e : suc p + 1 ≡ suc (p + 1) = omega arith in
      ap (count_before chosen (a ∷ g)) e ∙ omega (arith, before-next g p (omega arith))

  pub before-all : (g : Graph) (p : ℕ) → length g ≤ p → count_before chosen g p ≡ count_in chosen g
  before-all [] p l = refl
  before-all (a ∷ g) zero l = absurd (omega arith)
  before-all (a ∷ g) (suc p) l = ap (λ n. length (chosen a.declarations) + n) (before-all g p (omega arith))

  -- no package has more than all together
  pub before-within : chosen [] ≡ [] → (g : Graph) (p : ℕ) → count_before chosen g p + length (chosen (package_at g p).declarations) ≤ count_in chosen g
  before-within none [] p = omega (arith, ap length none)
  before-within none (a ∷ g) zero = omega arith
  before-within none (a ∷ g) (suc p) = omega (arith, before-within none g p)

  -- the next number, as far as numbers go
  pub before-after : chosen [] ≡ [] → (g : Graph) → length g ≤ 4096 → (p n : ℕ) → n ≡ min (p + 1) 4294967295 → count_before chosen g n ≡ count_before chosen g p + length (chosen (package_at g p).declarations)
  before-after none g few p n next = ⊎_elim
      (λ (l : p < length g). let e : n ≡ p + 1 = omega arith in ap (count_before chosen g) e ∙ before-next g p l)
      (λ (l : length g ≤ p). omega (arith, before-all g n (omega arith), before-all g p l, ap (λ a. length (chosen a.declarations)) (package-beyond g p l), ap length none))
      (cases_lt p (length g))
