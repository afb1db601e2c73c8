-- What the dependencies of a name give is what all of a package give where they have the name.
use Rattle.std.proofs.Common.{◌≡◌, ℕ, ◌+◌, Bool, true, false, cond, ◌&&◌, ◌||◌, List, [], ◌∷◌, ◌++◌, Option, refl, ap}
use Rattle.std.specs.List.{flat_map}
use Rattle.std.specs.Str.{bytes_eq}
use Rattle.records.specs.Graphs.{Dependency, Graph}
use Rattle.graph.specs.declared.rows.Row.{Row}
use Rattle.graph.specs.RowLists.{one_named, each_named, switch_rows, weak_rows}
use Rattle.graph.specs.Namesakes.{namesake, namesakes}
use Rattle.graph.specs.Places.{dep, dependencies_of, features_of, number}
use Rattle.graph.specs.Rules.{each, when}
use Rattle.graph.specs.Second.{has_feature, has_dependency, ends_have}
use Rattle.graph.proofs.Steps.{any_left}

-- whether the end of each has a feature
abbrev pub all_have : Graph → List ℕ → List (ℕ × Dependency) → Bool
all_have g x [] = true
all_have g x (y ∷ ys) = has_feature (features_of g y.1.end) x && all_have g x ys

module _ (g : Graph) (p : ℕ) (n : List ℕ) where
  any-named : (k : ℕ) (ds : List Dependency) → any_left (each (namesake g p n) k ds) ≡ has_dependency ds n
  any-named k [] = refl
  any-named k (d ∷ ds) = go (bytes_eq d.name n) (any-named (k + 1) ds)
    where
      go : (t : Bool) → any_left (each (namesake g p n) (k + 1) ds) ≡ has_dependency ds n → any_left (when t (number g (dep p k), d) ++ each (namesake g p n) (k + 1) ds) ≡ (t || has_dependency ds n)
      go true e = refl
      go false e = e

  pub any-namesake : any_left (namesakes g p n) ≡ has_dependency (dependencies_of g p) n
  any-namesake = any-named 0 (dependencies_of g p)

  all-named : (x : List ℕ) (k : ℕ) (ds : List Dependency) → all_have g x (each (namesake g p n) k ds) ≡ ends_have g ds n x
  all-named x k [] = refl
  all-named x k (d ∷ ds) = go (bytes_eq d.name n) (all-named x (k + 1) ds)
    where
      go : (t : Bool) → all_have g x (each (namesake g p n) (k + 1) ds) ≡ ends_have g ds n x → all_have g x (when t (number g (dep p k), d) ++ each (namesake g p n) (k + 1) ds) ≡ (cond t (has_feature (features_of g d.end) x) true && ends_have g ds n x)
      go true e = ap (λ b. has_feature (features_of g d.end) x && b) e
      go false e = e

  pub all-namesakes-have : (x : List ℕ) → all_have g x (namesakes g p n) ≡ ends_have g (dependencies_of g p) n x
  all-namesakes-have x = all-named x 0 (dependencies_of g p)

  module _ (from : ℕ) (switches : Bool) (x : Option (List ℕ)) where
    -- the rows of a value for one of them
    abbrev pub rows_for : ℕ × Dependency → List Row
    rows_for y = switch_rows g from switches y.0 y.1 ++ weak_rows g from x y.0 y.1

    rows-named : (k : ℕ) (ds : List Dependency) → flat_map rows_for (each (namesake g p n) k ds) ≡ each (λ k. one_named g from n switches x (number g (dep p k))) k ds
    rows-named k [] = refl
    rows-named k (d ∷ ds) = go (bytes_eq d.name n) (rows-named (k + 1) ds)
      where
        go : (t : Bool) → flat_map rows_for (each (namesake g p n) (k + 1) ds) ≡ each (λ k. one_named g from n switches x (number g (dep p k))) (k + 1) ds → flat_map rows_for (when t (number g (dep p k), d) ++ each (namesake g p n) (k + 1) ds) ≡ cond t (rows_for (number g (dep p k), d)) [] ++ each (λ k. one_named g from n switches x (number g (dep p k))) (k + 1) ds
        go true e = ap (λ rs. rows_for (number g (dep p k), d) ++ rs) e
        go false e = e

    pub rows-namesakes : flat_map rows_for (namesakes g p n) ≡ each_named g p from n switches x
    rows-namesakes = rows-named 0 (dependencies_of g p)
