-- The dependencies of a package that have one name.
use Rattle.std.specs.Prelude.{ℕ, ◌+◌, ◌-◌, cond, ◌&&◌, List, [], ◌∷◌, drop, length, ◌==◌}
use Rattle.std.specs.Str.{bytes_eq}
use Rattle.records.specs.Bodies.{dependency_view}
use Rattle.records.specs.Graphs.{Dependency, Graph}
use Rattle.graph.specs.declared.namesakes.Namesake as code
use Rattle.graph.specs.declared.namesakes.Namesakes as iterator
use Rattle.graph.specs.Depending.{Depending, depending}
use Rattle.graph.specs.Buckets.{past}
use Rattle.graph.specs.RowLists.{its}
use Rattle.graph.specs.Places.{dep, dependencies_of, number}
use Rattle.graph.specs.Rules.{each, when}

-- those of package p, each with its local number, in file order
abbrev pub namesake : Graph → ℕ → List ℕ → ℕ → Dependency → List (ℕ × Dependency)
namesake g p n k d = when (bytes_eq d.name n) (number g (dep p k), d)

abbrev pub namesakes : Graph → ℕ → List ℕ → List (ℕ × Dependency)
namesakes g p n = each (namesake g p n) 0 (dependencies_of g p)

-- the same among all dependencies, whose local numbers begin at i
abbrev pub among : ℕ → List ℕ → ℕ → List Depending → List (ℕ × Dependency)
among p n i [] = []
among p n i (x ∷ xs) = cond (x.owner == p && bytes_eq x.dependency.name n) ((i, x.dependency) ∷ among p n (i + 1) xs) (among p n (i + 1) xs)

-- among all but the first k
abbrev pub among_from : Graph → ℕ → List ℕ → ℕ → List (ℕ × Dependency)
among_from g p n k = among p n (length g + k) (drop k (depending 0 g))

-- what an iterator has yet to give, and an item of it
abbrev pub left : iterator.Namesakes → List (ℕ × Dependency)
left x = among_from (its x.filled) x.key.owner x.key.name.now (length (depending 0 (its x.filled)) - past x.at)

abbrev pub namesake_view : code.Namesake → ℕ × Dependency
namesake_view x = (x.item, dependency_view x.dependency)
