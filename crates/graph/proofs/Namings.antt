-- Checks of single records make those of all.
use Rattle.std.proofs.Common.{◌≡◌, ℕ, ◌+◌, ◌<◌, Bool, cond, List, [], ◌∷◌, map, length, get_or, drop, Some, None, Err, Option, Result, sym, refl, ap, ◌∙◌, arith, option_map}
use Rattle.std.proofs.lemmas.List.{at_drop_more}
use Rattle.std.proofs.lemmas.Option.{none-some}
use Rattle.records.specs.declared.faults.RecordFault.{RecordFault}
use Rattle.records.specs.declared.faults.RecordFault.TheVariants.{Unknown}
use Rattle.graph.specs.declared.faults.InRecord.{InRecord}
use Rattle.graph.specs.declared.contents.DeclarationRecord as code_declaration
use Rattle.graph.specs.declared.contents.DeclarationRecord.TheVariants as kept
use Rattle.graph.specs.Directory.{no_place}
use Rattle.graph.specs.Views.{declaration_view}
use Rattle.graph.specs.Second.{DeclarationPlace, check_each, or_after, check_all}
use Rattle.text.specs.Forms.{Form, spell}
use Rattle.records.specs.Bodies.{form_in, dependency_view, feature_view}
use Rattle.records.specs.declared.bodies.Dependency.{Dependency as DependencyBody}
use Rattle.records.specs.declared.bodies.Feature.{Feature as FeatureBody}
use Rattle.records.specs.Graphs.{Dependency, Declaration, dependency, feature}
use Rattle.records.proofs.Listings.{said-spelled}

-- whether some strings are known, by the strings and by what they say
pub known-texts : (test : Form (List ℕ) → Bool) (at : ℕ) (ts : List (List ℕ)) → check_each (λ t. test (form_in t)) length at ts ≡ check_each test (λ v. length (spell v)) at (map form_in ts)
known-texts test at [] = refl
known-texts test at (t ∷ ts) =
    let size : length t ≡ length (spell (form_in t)) = sym (ap length (said-spelled t)) in
    ap (λ r. cond (test (form_in t)) r (Err (Unknown (at + 1)))) (known-texts test ((at + 1) + length t) ts ∙ ap (λ n. check_each test (λ v. length (spell v)) ((at + 1) + n) (map form_in ts)) size)

pub same-part : (p q : Declaration) → ◌≡◌ {A = Option Declaration} (Some p) (Some q) → p ≡ q
same-part p q e = cc

-- a loop over the records
module _ (test : DeclarationPlace → Result (Unit {0}) RecordFault) (xs : List DeclarationPlace) (j : ℕ) (all : Result (Unit {0}) InRecord) (inv : check_all test (drop j xs) ≡ all) (l : j < length xs) where
  opened : or_after (get_or xs j no_place) (test (get_or xs j no_place)) (check_all test (drop (j + 1) xs)) ≡ all
  opened = sym (at_drop_more (check_all test) xs j no_place l) ∙ inv

  pub check-stops : (fault : RecordFault) (number start : ℕ) → test (get_or xs j no_place) ≡ Err fault → number ≡ (get_or xs j no_place).number → start ≡ (get_or xs j no_place).start → Err (record { number = number; start = start; fault = fault }) ≡ all
  check-stops fault number start e n s =
      (λ i. Err (record { number = n i; start = s i; fault = fault }))
      ∙ ap (λ u. or_after (get_or xs j no_place) u (check_all test (drop (j + 1) xs))) (sym e)
      ∙ opened

-- a record that is read again as a dependency is that one
module _ (o : Option code_declaration.DeclarationRecord) (d : Dependency) (e : option_map declaration_view o ≡ Some (dependency d)) where
  pub read-dependency : (x : DependencyBody) → o ≡ Some (kept.Dependency x) → dependency_view x ≡ d
  read-dependency x q = let z : dependency (dependency_view x) ≡ dependency d = same-part _ _ (sym (ap (option_map declaration_view) q) ∙ e) in cc

  pub read-no-feature : (x : FeatureBody) → o ≡ Some (kept.Feature x) → ⊥
  read-no-feature x q = let z : feature (feature_view x) ≡ dependency d = same-part _ _ (sym (ap (option_map declaration_view) q) ∙ e) in let w : ◌≡◌ {A = ℕ} 0 1 = cc in omega arith

  pub read-something : o ≡ None → ⊥
  read-something q = none-some (dependency d) (sym (ap (option_map declaration_view) q) ∙ e)
