-- The rows of a graph by numbers, as private functions lay them; `RowsLaid` shows that all of them together are `rows`.
use Rattle.std.specs.Prelude.{◌≡◌, ℕ, zero, suc, ◌+◌, ◌<◌, length, slice_index, slice_index_or, Bool, true, false, cond, ◌&&◌, List, [], ◌∷◌, ◌++◌, drop, Some, None, codes, Option}
use Rattle.std.specs.List.{flat_map}
use Rattle.std.specs.Str.{bytes_eq}
use Rattle.text.specs.Forms.{Form, plain, switch, strong, weak}
use Rattle.lanes.specs.declared.lane_numbers.Lane.{Lane}
use Rattle.records.specs.Graphs.{Dependency, Declaration, dependency, feature, Graph}
use Rattle.graph.specs.declared.rows.Row.{Row}
use Rattle.graph.specs.declared.filled.Filled.{Filled}
use Rattle.graph.specs.declared.tables.DeclarationEntry.{DeclarationEntry}
use Rattle.graph.specs.declared.tables.Starts.{Starts}
use Rattle.graph.specs.Directory.{no_place}
use Rattle.graph.specs.declared.rules.Premises.{Premises}
use Rattle.graph.specs.declared.rules.Link.{Link}
use Rattle.graph.specs.declared.rules.Link.TheVariants.{Switch, Strong, Weak}
use Rattle.graph.specs.Declarations.{declaration_in}
use Rattle.graph.specs.Reading.{graph_of}
use Rattle.graph.specs.Places.{dep, feat, dependencies_of, features_of, number}
use Rattle.graph.specs.Second.{DeclarationPlace}
use Rattle.graph.specs.Rules.{lane_of, place_of, when_some, when, unless, each}

-- the graph that a filled directory is of
abbrev pub its : Filled → Graph
its x = graph_of x.directory.now.index.file.now

-- the record that starts here is read as this dependency or feature
abbrev pub ReadsAs : Filled → ℕ → Declaration → Type 0
ReadsAs x start p = declaration_in (drop start x.directory.now.index.file.now) ≡ Some p

-- the records of a table are these dependencies or features, numbered so
pub record TableOf (x : Filled) (t : Starts) (n : ℕ → ℕ) (declarations : List Declaration) : Type 0 where
  pub count : length t.starts.now ≡ length declarations
  pub records : (k : ℕ) → k < length declarations → ReadsAs x (slice_index t.starts.now k) (slice_index_or declarations k no_place.declaration)
  pub number : (k : ℕ) → t.first + k ≡ n k

-- an entry of the table of all records tells where this one starts and whose it is
abbrev pub PlacedAs : Filled → DeclarationEntry → DeclarationPlace → Type 0
PlacedAs x e y = (e.start ≡ y.start) × (e.owner ≡ y.owner) × ReadsAs x e.start y.declaration

-- the row to a conclusion, and the row to the feature of a name of a package, if there is one
abbrev pub row_to : Premises → ℕ → Row
row_to x to = record { rule = record { from = x.from; with = x.with; to = to }; lane = x.lane; cross = x.cross }

abbrev pub row_found : Graph → Premises → ℕ → List ℕ → List Row
row_found g x p n = when_some (place_of (features_of g p) n) (λ j. row_to x (number g (feat p j)))

-- from an item to the feature of a name of a package
abbrev pub ask_rows : Graph → ℕ → Lane → ℕ → List ℕ → List Row
ask_rows g from lane end n = row_found g (record { from = from; with = None; lane = Some lane; cross = true }) end n

-- the rows of a dependency whose number is `item`, in a package `owner`
abbrev pub dependency_rows : Graph → ℕ → ℕ → Dependency → List Row
dependency_rows g owner item d =
    unless d.optional (record { rule = record { from = owner; with = None; to = item }; lane = Some (lane_of g d); cross = false })
    ++ (record { rule = record { from = item; with = None; to = d.end }; lane = Some (lane_of g d); cross = true } ∷ []
    ++ (cond d.defaults (ask_rows g item (lane_of g d) d.end (codes "default")) []
    ++ flat_map (ask_rows g item (lane_of g d) d.end) d.asks))

-- whether a value switches an optional dependency on, and the feature of its end that it names
abbrev pub switches : Link → Bool
switches Switch = true
switches (Strong x) = true
switches (Weak x) = false

abbrev pub feature_named : Link → Option (List ℕ)
feature_named Switch = None
feature_named (Strong x) = Some x.now
feature_named (Weak x) = Some x.now

-- the rows of a value for one dependency that it names: it may switch it on, and it may name a feature of its end
abbrev pub weak_rows : Graph → ℕ → Option (List ℕ) → ℕ → Dependency → List Row
weak_rows g from None item d = []
weak_rows g from (Some x) item d = row_found g (record { from = from; with = Some item; lane = Some (lane_of g d); cross = true }) d.end x

abbrev pub switch_rows : Graph → ℕ → Bool → ℕ → Dependency → List Row
switch_rows g from switches item d = when (switches && d.optional) (record { rule = record { from = from; with = None; to = item }; lane = Some (lane_of g d); cross = false })

abbrev pub one_named : Graph → ℕ → List ℕ → Bool → Option (List ℕ) → ℕ → Dependency → List Row
one_named g from n switches x item d = cond (bytes_eq d.name n) (switch_rows g from switches item d ++ weak_rows g from x item d) []

-- for each dependency of package p
abbrev pub each_named : Graph → ℕ → ℕ → List ℕ → Bool → Option (List ℕ) → List Row
each_named g p from n switches x = each (λ k. one_named g from n switches x (number g (dep p k))) 0 (dependencies_of g p)

-- the rows of a value of a feature, whose number is `from`, of package p
abbrev pub value_rows : Graph → ℕ → ℕ → Form (List ℕ) → List Row
value_rows g p from (plain n) = row_found g (record { from = from; with = None; lane = None; cross = false }) p n
value_rows g p from (switch n) = each_named g p from n true None
value_rows g p from (strong n x) = each_named g p from n true (Some x)
value_rows g p from (weak n x) = each_named g p from n false (Some x)

-- the rows of a dependency or feature of a package, whose number is `item`
abbrev pub declaration_rows : Graph → ℕ → ℕ → Declaration → List Row
declaration_rows g p item (dependency d) = dependency_rows g p item d
declaration_rows g p item (feature f) = flat_map (value_rows g p item) f.values

-- the rows of the dependencies of a package, of its features, of all of it, and of the packages before one
abbrev pub dependencies_rows : Graph → ℕ → List Row
dependencies_rows g p = each (λ k. dependency_rows g p (number g (dep p k))) 0 (dependencies_of g p)

abbrev pub features_rows : Graph → ℕ → List Row
features_rows g p = each (λ k f. flat_map (value_rows g p (number g (feat p k))) f.values) 0 (features_of g p)

abbrev pub package_rows : Graph → ℕ → List Row
package_rows g p = dependencies_rows g p ++ features_rows g p

abbrev pub rows_below : Graph → ℕ → List Row
rows_below g zero = []
rows_below g (suc n) = rows_below g n ++ package_rows g n
