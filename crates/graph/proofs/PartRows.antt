-- The dependencies and the features of a package, as parts.
use Rattle.std.proofs.Common.{◌≡◌, ℕ, ◌+◌, ◌<◌, List, [], ◌∷◌, ◌++◌, map, length, get_or, sym, refl, ap, ◌∙◌, subst, arith}
use Rattle.std.proofs.lemmas.List.{get_or-map, length-map}
use Rattle.records.specs.Graphs.{Declaration, dependency, feature, Graph}
use Rattle.graph.specs.declared.filled.Filled.{Filled}
use Rattle.graph.specs.declared.rows.Row.{Row}
use Rattle.graph.specs.declared.tables.Starts.{Starts}
use Rattle.graph.specs.Directory.{no_place}
use Rattle.graph.specs.RowLists.{its, ReadsAs, TableOf, declaration_rows, dependencies_rows, features_rows}
use Rattle.graph.specs.Places.{dep, feat, dependencies_of, features_of, number, no_dependency, no_feature}
use Rattle.graph.specs.Rules.{each}

-- a table of things that are parts
module _ {A : Type 0} (f : A → Declaration) (x : Filled) (t : Starts) (n : ℕ → ℕ) (xs : List A) (d : A) where
  table-of : length t.starts.now ≡ length xs → ((k : ℕ) → k < length xs → ReadsAs x (get_or t.starts.now k 0) (f (get_or xs k d))) → ((k : ℕ) → t.first + k ≡ n k) → TableOf x t n (map f xs)
  table-of count records first = record {
    count = count ∙ sym (length-map xs f);
    records = λ k l.
        let m : k < length xs = omega (arith, l, length-map xs f) in
        subst (ReadsAs x (get_or t.starts.now k 0)) (sym (get_or-map f xs k d no_place.declaration m)) (records k m);
    number = first;
  }

-- what each part of a list gives
each-map : {A : Type 0} (f : A → Declaration) (h : ℕ → Declaration → List Row) (k : ℕ) (xs : List A) → each h k (map f xs) ≡ each (λ i x. h i (f x)) k xs
each-map f h k [] = refl
each-map f h k (x ∷ xs) = ap (λ rs. h k (f x) ++ rs) (each-map f h (k + 1) xs)

module _ (x : Filled) (p : ℕ) (t : Starts) where
  pub dependency-table : length t.starts.now ≡ length (dependencies_of (its x) p) → ((k : ℕ) → k < length (dependencies_of (its x) p) → ReadsAs x (get_or t.starts.now k 0) (dependency (get_or (dependencies_of (its x) p) k no_dependency))) → ((k : ℕ) → t.first + k ≡ number (its x) (dep p k)) → TableOf x t (λ k. number (its x) (dep p k)) (map dependency (dependencies_of (its x) p))
  dependency-table = table-of dependency x t (λ k. number (its x) (dep p k)) (dependencies_of (its x) p) no_dependency

  pub feature-table : length t.starts.now ≡ length (features_of (its x) p) → ((k : ℕ) → k < length (features_of (its x) p) → ReadsAs x (get_or t.starts.now k 0) (feature (get_or (features_of (its x) p) k no_feature))) → ((k : ℕ) → t.first + k ≡ number (its x) (feat p k)) → TableOf x t (λ k. number (its x) (feat p k)) (map feature (features_of (its x) p))
  feature-table = table-of feature x t (λ k. number (its x) (feat p k)) (features_of (its x) p) no_feature

pub dependencies-each : (g : Graph) (p : ℕ) → each (λ k. declaration_rows g p (number g (dep p k))) 0 (map dependency (dependencies_of g p)) ≡ dependencies_rows g p
dependencies-each g p = each-map dependency (λ k. declaration_rows g p (number g (dep p k))) 0 (dependencies_of g p)

pub features-each : (g : Graph) (p : ℕ) → each (λ k. declaration_rows g p (number g (feat p k))) 0 (map feature (features_of g p)) ≡ features_rows g p
features-each g p = each-map feature (λ k. declaration_rows g p (number g (feat p k))) 0 (features_of g p)
