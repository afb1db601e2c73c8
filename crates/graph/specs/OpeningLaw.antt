-- Opening accepts exactly the lawful graphs, and lays down exactly their rules.
use Rattle.std.specs.Prelude.{◌≡◌, ℕ, ◌<◌, ◌≤◌, true, false, ◌⊎◌, List, ◌++◌, length, Some, None, Ok, Err, codes, Result, slice_index_or}
use Rattle.std.specs.List.{flat_map, AllByRecursion, Contains}
use Rattle.text.specs.Forms.{Form, plain, switch, strong, weak}
use Rattle.records.specs.declared.faults.RecordFault.{RecordFault}
use Rattle.records.specs.declared.faults.RecordFault.TheVariants.{Cut, Stray, Ragged, Mark, Text, Twice, Unknown, Many}
use Rattle.records.specs.Graphs.{Dependency, Feature, Declaration, dependency, feature, Graph}
use Rattle.records.specs.Encoding.{record_bytes, encode}
use Rattle.graph.specs.declared.faults.FileFault.{FileFault}
use Rattle.graph.specs.declared.faults.FileFault.TheVariants.{Record, Size, Rows, Memory}
use Rattle.graph.specs.declared.rows.Opened.{Opened}
use Rattle.graph.specs.Law.{Says}
use Rattle.graph.specs.Places.{unit, dep, feat, dependencies_of, features_of, no_dependency, no_feature}
use Rattle.graph.specs.Rules.{Rule, lane_of, rules}
use Rattle.graph.specs.Words.{rows, graph_words, row_start}
use Rattle.graph.specs.Opening.{over, opened_counts}
use Rattle.graph.specs.Second.{DeclarationPlace, declaration_places}
use Rattle.graph.specs.Limits.{max_bytes, max_rule_rows}

-- d is dependency k of package p; f is feature k of package p
abbrev pub DependencyAt : Graph → ℕ → ℕ → Dependency → Type 0
DependencyAt g p k d =
    (k < length (dependencies_of g p)) × (slice_index_or (dependencies_of g p) k no_dependency ≡ d)

abbrev pub FeatureAt : Graph → ℕ → ℕ → Feature → Type 0
FeatureAt g p k f =
    (k < length (features_of g p)) × (slice_index_or (features_of g p) k no_feature ≡ f)

-- feature k of package p has this name; package p has a feature of this name
abbrev pub NamedAt : Graph → ℕ → ℕ → List ℕ → Type 0
NamedAt g p k n = (f : Feature) × FeatureAt g p k f × (f.name ≡ n)

abbrev pub HasFeature : Graph → ℕ → List ℕ → Type 0
HasFeature g p n = (k : ℕ) × NamedAt g p k n

-- package p has a dependency of this name; and every one so named has an end with this feature
abbrev pub HasDependency : Graph → ℕ → List ℕ → Type 0
HasDependency g p n = (k : ℕ) × (d : Dependency) × DependencyAt g p k d × (d.name ≡ n)

abbrev pub EndsHave : Graph → ℕ → List ℕ → List ℕ → Type 0
EndsHave g p n x =
    (k : ℕ) (d : Dependency) → DependencyAt g p k d → d.name ≡ n → HasFeature g d.end x

-- what a value of package p names is there
abbrev pub ResolvedValue : Graph → ℕ → Form (List ℕ) → Type 0
ResolvedValue g p (plain x) = HasFeature g p x
ResolvedValue g p (switch n) = HasDependency g p n
ResolvedValue g p (strong n x) = HasDependency g p n × EndsHave g p n x
ResolvedValue g p (weak n x) = HasDependency g p n × EndsHave g p n x

-- every reference of a graph is resolved
pub record ResolvedGraph (g : Graph) : Type 0 where
  pub ends : (p k : ℕ) (d : Dependency) → DependencyAt g p k d → d.end < length g
  pub asks : (p k : ℕ) (d : Dependency) → DependencyAt g p k d →
      AllByRecursion (HasFeature g d.end) d.asks
  pub values : (p k : ℕ) (f : Feature) → FeatureAt g p k f →
      AllByRecursion (ResolvedValue g p) f.values

-- the file says this graph, its references are resolved, its rows are few enough and the words
-- suffice
pub record Opens (file words : List ℕ) (g : Graph) : Type 0 where
  pub says : Says file g
  pub resolved : ResolvedGraph g
  pub few : length (rows g) ≤ max_rule_rows
  pub room : row_start (length (rows g)) ≤ length words

-- what this dependency or feature of package p refers to is there
abbrev pub ResolvedDeclaration : Graph → ℕ → Declaration → Type 0
ResolvedDeclaration g p (dependency d) =
    (d.end < length g) × AllByRecursion (HasFeature g d.end) d.asks
ResolvedDeclaration g p (feature f) = AllByRecursion (ResolvedValue g p) f.values

-- the file is no longer than may be, and says no lawful graph
abbrev pub SaysNone : List ℕ → Type 0
SaysNone file = (length file ≤ max_bytes) × ((g : Graph) → Says file g → ⊥)

-- the file begins with so many records, each with a kind and a body, and the next one begins at
-- this place
pub record Behind (file : List ℕ) (number start : ℕ) : Type 0 where
  pub records : List (ℕ × List ℕ)
  pub rest : List ℕ
  pub bytes : file ≡ flat_map (λ r. record_bytes r.0 r.1) records ++ rest
  pub number_is : number ≡ length records
  pub start_is : start ≡ length (flat_map (λ r. record_bytes r.0 r.1) records)

-- the file says a graph, and something that the record at this place refers to is not there
pub record UnresolvedRecord (file : List ℕ) (number start : ℕ) : Type 0 where
  pub graph : Graph
  pub says : Says file graph
  pub at : DeclarationPlace
  pub among : Contains (declaration_places graph) at
  pub number_is : number ≡ at.number
  pub start_is : start ≡ at.start
  pub amiss : ResolvedDeclaration graph at.owner at.declaration → ⊥

-- what a file lacks that is refused for a record: with Unknown, something that this record refers to, and with all other
-- faults, a lawful graph; the record begins behind those before it
abbrev pub RecordLacks : List ℕ → ℕ → ℕ → RecordFault → Type 0
RecordLacks file number start (Unknown field) = UnresolvedRecord file number start
RecordLacks file number start Cut = SaysNone file × Behind file number start
RecordLacks file number start Stray = SaysNone file × Behind file number start
RecordLacks file number start (Ragged field) = SaysNone file × Behind file number start
RecordLacks file number start (Mark field) = SaysNone file × Behind file number start
RecordLacks file number start (Text found) = SaysNone file × Behind file number start
RecordLacks file number start (Twice field) = SaysNone file × Behind file number start
RecordLacks file number start Many = SaysNone file × Behind file number start

-- what a file or the words lack where opening is refused so
abbrev pub Lacks : List ℕ → List ℕ → FileFault → Type 0
Lacks file words Size = max_bytes < length file
Lacks file words (Record x) = RecordLacks file x.number x.start x.fault
Lacks file words Rows =
    (g : Graph) × Says file g × ResolvedGraph g × (max_rule_rows < length (rows g))
Lacks file words Memory =
    (g : Graph) × Says file g × ResolvedGraph g × (length (rows g) ≤ max_rule_rows)
    × (length words < row_start (length (rows g)))

-- Opening accepts exactly such a file, as that graph, of which there is one, and its words stand in
-- front; where it is refused, what the refusal tells is lacking, and the words are as they were. More
-- may be lacking.
pub record OpeningLaw (file words : List ℕ) (r : Result Opened FileFault) (after : List ℕ) : Type 0 where
  pub sound : (o : Opened) → r ≡ Ok o →
      (g : Graph) × Opens file words g × (o ≡ opened_counts g (length (encode g)))
      × (after ≡ over (graph_words g) words)
  pub complete : (g : Graph) → Opens file words g →
      (r ≡ Ok (opened_counts g (length (encode g)))) × (after ≡ over (graph_words g) words)
  pub once : (g h : Graph) → Says file g → Says file h → g ≡ h
  pub refused : (e : FileFault) → r ≡ Err e → Lacks file words e × (after ≡ words)

-- Which rules stand.
pub data IsRuleOf (g : Graph) : Rule → Type 0 where
  -- a unit needs its dependencies that are not optional
  needs : {p k : ℕ} {d : Dependency} → DependencyAt g p k d → d.optional ≡ false →
      IsRuleOf g (record { from = unit p; with = None; to = dep p k; lane = Some (lane_of g d); cross = false })
  -- a dependency needs the unit of its end,
  builds : {p k : ℕ} {d : Dependency} → DependencyAt g p k d →
      IsRuleOf g (record { from = dep p k; with = None; to = unit d.end; lane = Some (lane_of g d); cross = true })
  -- the feature default of its end, if it is wanted and there,
  defaults : {p k j : ℕ} {d : Dependency} → DependencyAt g p k d → d.defaults ≡ true →
      NamedAt g d.end j (codes "default") →
      IsRuleOf g (record { from = dep p k; with = None; to = feat d.end j; lane = Some (lane_of g d); cross = true })
  -- and the features that it asks for
  asks : {p k j : ℕ} {d : Dependency} {n : List ℕ} → DependencyAt g p k d →
      Contains d.asks n → NamedAt g d.end j n →
      IsRuleOf g (record { from = dep p k; with = None; to = feat d.end j; lane = Some (lane_of g d); cross = true })
  -- a plain value turns on a feature of the same package
  plainly : {p j i : ℕ} {f : Feature} {n : List ℕ} → FeatureAt g p j f →
      Contains f.values (plain n) → NamedAt g p i n →
      IsRuleOf g (record { from = feat p j; with = None; to = feat p i; lane = None; cross = false })
  -- a switch or a strong value turns on each optional dependency that it names
  switches : {p j k : ℕ} {f : Feature} {d : Dependency} {n : List ℕ} → FeatureAt g p j f →
      Contains f.values (switch n) ⊎ ((x : List ℕ) × Contains f.values (strong n x)) →
      DependencyAt g p k d → d.name ≡ n → d.optional ≡ true →
      IsRuleOf g (record { from = feat p j; with = None; to = dep p k; lane = Some (lane_of g d); cross = false })
  -- a strong or a weak value, with each dependency that it names, turns on the feature of its end
  joins : {p j k i : ℕ} {f : Feature} {d : Dependency} {n x : List ℕ} → FeatureAt g p j f →
      Contains f.values (strong n x) ⊎ Contains f.values (weak n x) →
      DependencyAt g p k d → d.name ≡ n → NamedAt g d.end i x →
      IsRuleOf g (record { from = feat p j; with = Some (dep p k); to = feat d.end i; lane = Some (lane_of g d); cross = true })

-- the rules of a graph are exactly those that stand
abbrev pub RulesLaw : Graph → Type 0
RulesLaw g =
    (ρ : Rule) → (Contains (rules g) ρ → IsRuleOf g ρ) × (IsRuleOf g ρ → Contains (rules g) ρ)
