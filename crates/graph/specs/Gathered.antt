-- What the first reading gathers: counts, and the features by package and name.
use Rattle.std.specs.Prelude.{◌≡◌, ℕ, ◌+◌, ◌-◌, cond, List, [], ◌∷◌, ◌++◌, length, Ok, Err, Result, nat_lt}
use Rattle.records.specs.Graphs.{Declaration, dependency, feature, Graph}
use Rattle.graph.specs.declared.contents.Counts.{Counts}
use Rattle.graph.specs.declared.faults.FileFault.{FileFault}
use Rattle.graph.specs.declared.faults.FileFault.TheVariants.{Size}
use Rattle.graph.specs.Keys.{Key}
use Rattle.graph.specs.Reading.{Cursor, first_cursor, Reading, scan}
use Rattle.graph.specs.Limits.{max_bytes}
use Rattle.graph.specs.Law.{dependencies_in, dependency_count}

-- the features of a package, and those of packages numbered from p on
abbrev pub keys_in : ℕ → List Declaration → List Key
keys_in p [] = []
keys_in p (dependency d ∷ ps) = keys_in p ps
keys_in p (feature f ∷ ps) = record { owner = p; name = f.name } ∷ keys_in p ps

abbrev pub keys_from : ℕ → Graph → List Key
keys_from p [] = []
keys_from p (a ∷ g) = keys_in p a.declarations ++ keys_from (p + 1) g

pub record Gathered : Type 0 where
  pub read : ℕ
  pub packages : ℕ
  pub dependencies : ℕ
  pub keys : List Key

-- what was gathered up to a stand, and what is left
abbrev pub gathered : Cursor → Reading → Result Gathered FileFault
gathered st (Ok p) = Ok (record {
  read = p.1;
  packages = st.packages + length p.0.packages;
  dependencies = st.dependencies + (length (dependencies_in p.0.declarations) + dependency_count p.0.packages);
  keys = st.keys ++ (keys_in (st.packages - 1) p.0.declarations ++ keys_from st.packages p.0.packages);
})
gathered st (Err e) = Err e

abbrev pub gathered_in : List ℕ → Result Gathered FileFault
gathered_in file = cond (nat_lt max_bytes (length file)) (Err Size) (gathered first_cursor (scan first_cursor file))

-- what the code answers and holds in its index
abbrev pub gathered_by : Result Counts FileFault → List Key → Result Gathered FileFault
gathered_by (Ok c) ks = Ok (record { read = c.read; packages = c.packages; dependencies = c.dependencies; keys = ks })
gathered_by (Err e) ks = Err e

-- the count of features that the code answers is that of its index
abbrev pub Featured : Result Counts FileFault → ℕ → Type 0
Featured (Ok c) n = c.features ≡ n
Featured (Err e) n = Unit {0}
