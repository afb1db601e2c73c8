-- What a filled directory tells of the graph of its file.
use Rattle.std.proofs.Common.{◌≡◌, ℕ, ◌+◌, ◌-◌, ◌<◌, ◌≤◌, true, false, eqb, List, ◌∷◌, Some, Option, length, get_or, take, drop, sym, ap, ◌∙◌, subst, arith, option_map}
use Rattle.std.proofs.lemmas.List.{get_or-take, get_or-drop, length-take-le, length-drop}
use Rattle.std.proofs.lemmas.Bool.{and_parts, eqb-true}
use Rattle.std.proofs.Math.Logic.{∥∥₁_elim}
use Rattle.std.proofs.Props.{props}
use Rattle.records.specs.Graphs.{dependency, feature, Graph}
use Rattle.graph.specs.declared.filled.Filled.{Filled}
use Rattle.graph.specs.declared.tables.Directory.{Directory}
use Rattle.graph.specs.Depending.{Depending, depending, Indexed}
use Rattle.graph.specs.Directory.{Tells, no_package, no_declaration_entry, no_depending, no_place}
use Rattle.graph.specs.RowLists.{its, ReadsAs, PlacedAs}
use Rattle.graph.specs.Law.{dependency_count, feature_count}
use Rattle.graph.specs.Places.{feat, dependencies_of, features_of, package_at, number, dependencies_before, features_before, no_dependency, no_feature}
use Rattle.graph.specs.Keys.{is_key}
use Rattle.graph.specs.Buckets.{key_of, entry_at, past, newest_of, IsEntry}
use Rattle.graph.specs.Namesakes.{among_from, namesakes}
use Rattle.graph.specs.Rules.{place_of}
use Rattle.graph.specs.Second.{declaration_places}
use Rattle.graph.proofs.DependingPlaces.{depending-at, depending-length, all-namesakes}
use Rattle.graph.proofs.NamesakesLeft.{all-named, entry-named, from_end, from-newest, next-left}
use Rattle.graph.proofs.FeaturePlaces.{finds-item}
use Rattle.graph.proofs.Links.{found, not-here, skips-to}
use Rattle.graph.proofs.PartsAgain.{stands-reads}
use Rattle.graph.proofs.Sets.{option-set}

-- elements of a part of a table
pub in-window : (xs : List ℕ) (from to k : ℕ) → k < to - from → get_or (take (to - from) (drop from xs)) k 0 ≡ get_or xs (from + k) 0
in-window xs from to k l = get_or-take (to - from) (drop from xs) k 0 l ∙ get_or-drop from xs k 0

pub window-length : (xs : List ℕ) (from to : ℕ) → from ≤ to → to ≤ length xs → length (take (to - from) (drop from xs)) ≡ to - from
window-length xs from to l m = length-take-le (to - from) (drop from xs) (omega (arith, length-drop from xs))

module _ (x : Filled) where
  abbrev dir : Directory
  dir = x.directory.now

  abbrev graph : Graph
  graph = its x

  -- a fact with at most one proof, from what the tables tell
  from-tables : {P : Type 0} → IsProp P → (Tells dir graph → P) → P
  from-tables one f = ∥∥₁_elim x.told one f

  pub packages-told : dir.counts.packages ≡ length graph
  packages-told = from-tables (hlevel props) (λ t. ap (λ c. c.packages) t.counted)

  pub dependencies-told : dir.counts.dependencies ≡ dependency_count graph
  dependencies-told = from-tables (hlevel props) (λ t. ap (λ c. c.dependencies) t.counted)

  pub features-told : dir.counts.features ≡ feature_count graph
  features-told = from-tables (hlevel props) (λ t. ap (λ c. c.features) t.counted)

  pub few-packages : length graph ≤ 4096
  few-packages = from-tables (hlevel props) (λ t. t.says.lawful.few_packages)

  pub few-dependencies : dependency_count graph ≤ 16384
  few-dependencies = from-tables (hlevel props) (λ t. t.says.lawful.few_dependencies)

  pub few-features : feature_count graph ≤ 16384
  few-features = from-tables (hlevel props) (λ t. t.says.lawful.few_features)

  pub dependency-read : (p k : ℕ) → k < length (dependencies_of graph p) → ReadsAs x (get_or dir.dependencies (dependencies_before graph p + k) 0) (dependency (get_or (dependencies_of graph p) k no_dependency))
  dependency-read p k l = from-tables (option-set _ _) (λ t. stands-reads _ _ _ (t.depending p k l))

  pub mark-told : (p : ℕ) → p < length graph → (get_or dir.packages p no_package).proc_mark ≡ (package_at graph p).proc
  mark-told p l = from-tables (hlevel props) (λ t. ap (λ e. e.proc_mark) (t.packaged p l))

  -- dependency k of all
  pub dependency-start : (k : ℕ) → k < length (depending 0 graph) → ReadsAs x (get_or dir.dependencies k 0) (dependency (get_or (depending 0 graph) k no_depending).dependency)
  dependency-start k l =
      let a = depending-at 0 graph k l in
      subst (λ i. ReadsAs x (get_or dir.dependencies i 0) (dependency (get_or (depending 0 graph) k no_depending).dependency)) (sym a.3)
      (subst (λ (d : Depending). ReadsAs x (get_or dir.dependencies (dependencies_before graph a.0 + a.1) 0) (dependency d.dependency)) (sym a.4) (dependency-read a.0 a.1 a.2))

  pub many-depending : length (depending 0 graph) ≡ dependency_count graph
  many-depending = depending-length 0 graph

  -- a fact with at most one proof, from what the index of dependencies has
  pub from-names : {P : Type 0} → IsProp P → (Indexed dir.named graph → P) → P
  from-names one f = ∥∥₁_elim x.named one f

  pub names-count : dir.named.lists.count ≡ length (depending 0 graph)
  names-count = from-names (hlevel props) (λ named. all-named dir.named graph named)

  -- those of a name are left from its newest entry on
  pub names-left : (p : ℕ) (n : List ℕ) → among_from graph p n (length (depending 0 graph) - past (newest_of dir.named.lists.entries p n dir.named.lists.count)) ≡ namesakes graph p n
  names-left p n = from-names (hlevel props) (λ named.
      let z : length (depending 0 graph) - dir.named.lists.count ≡ 0 = omega (arith, all-named dir.named graph named) in
      from-newest dir.named graph named p n dir.named.lists.count (omega (arith, all-named dir.named graph named)) ∙ ap (among_from graph p n) z ∙ all-namesakes graph p n)

  -- and an entry of it is the next one
  pub next-of-name : (p : ℕ) (n : List ℕ) (k : ℕ) → IsEntry dir.named.lists.entries dir.named.lists.count p n k → among_from graph p n (length (depending 0 graph) - past (Some k)) ≡ from_end graph k ∷ among_from graph p n (length (depending 0 graph) - past (newest_of dir.named.lists.entries p n k))
  next-of-name p n k is = from-names (hlevel props) (λ named. next-left dir.named graph named p n k (omega (arith, is.0, names-count)) is.1)

  -- an entry of package p is among those of the package
  pub own-entry : (p : ℕ) (n : List ℕ) (k : ℕ) → k < length (depending 0 graph) → is_key p n (key_of (entry_at dir.named.lists.entries k)) ≡ true → (length (depending 0 graph) - (dependencies_before graph p + length (dependencies_of graph p)) ≤ k) × (k < length (depending 0 graph) - dependencies_before graph p)
  own-entry p n k l e = from-names (hlevel props) (λ named.
      let all = depending 0 graph in
      let i : ℕ = length all - 1 - k in
      let a = depending-at 0 graph i (omega arith) in
      let key = entry-named dir.named graph named k l in
      let own : (key_of (entry_at dir.named.lists.entries k)).owner ≡ p = eqb-true _ _ (and_parts (eqb (key_of (entry_at dir.named.lists.entries k)).owner p) _ e).0 in
      let of : (get_or all i no_depending).owner ≡ 0 + a.0 = ap (λ x. x.owner) a.4 in
      let same : (key_of (entry_at dir.named.lists.entries k)).owner ≡ (get_or all i no_depending).owner = ap (λ x. x.owner) key in
      let q : a.0 ≡ p = omega (arith, of, same, own) in
      let size : a.1 < length (dependencies_of graph p) = subst (λ y. a.1 < length (dependencies_of graph y)) q a.2 in
      let at : i ≡ dependencies_before graph p + a.1 = a.3 ∙ ap (λ y. dependencies_before graph y + a.1) q in
      (omega arith, omega arith))

  -- so none before or behind them has a key of the package
  pub none-low : (p : ℕ) (n : List ℕ) (low k : ℕ) → low ≡ length (depending 0 graph) - (dependencies_before graph p + length (dependencies_of graph p)) → k < low → is_key p n (key_of (entry_at dir.named.lists.entries k)) ≡ false
  none-low p n low k is l = not-here dir.named.lists.entries p n k (λ e. omega (arith, is, (own-entry p n k (omega (arith, is)) e).0))

  pub none-high : (p : ℕ) (n : List ℕ) (high : ℕ) → high ≡ length (depending 0 graph) - dependencies_before graph p → newest_of dir.named.lists.entries p n high ≡ newest_of dir.named.lists.entries p n dir.named.lists.count
  none-high p n high is = skips-to dir.named.lists.entries p n high dir.named.lists.count (omega (arith, is, names-count)) (λ k l m. not-here dir.named.lists.entries p n k (λ e. omega (arith, is, (own-entry p n k (omega (arith, names-count)) e).1)))

  pub feature-read : (p k : ℕ) → k < length (features_of graph p) → ReadsAs x (get_or dir.features (features_before graph p + k) 0) (feature (get_or (features_of graph p) k no_feature))
  feature-read p k l = from-tables (option-set _ _) (λ t. stands-reads _ _ _ (t.featuring p k l))

  pub part-placed : (j : ℕ) → j < length (declaration_places graph) → PlacedAs x (get_or dir.declarations j no_declaration_entry) (get_or (declaration_places graph) j no_place)
  part-placed j l =
      let e = from-tables (hlevel props) (λ t. ap (λ y. y.start) (t.parted j l).1) in (
        e,
        from-tables (hlevel props) (λ t. ap (λ y. y.owner) (t.parted j l).1),
        from-tables (option-set _ _) (λ t. stands-reads _ _ _ (t.parted j l).0),
      )

  -- the starts of the dependencies, and of the features, of a package
  pub dependency-window : (p from to : ℕ) → from ≡ dependencies_before graph p → to ≡ from + length (dependencies_of graph p) → (k : ℕ) → k < length (dependencies_of graph p) → ReadsAs x (get_or (take (to - from) (drop from dir.dependencies)) k 0) (dependency (get_or (dependencies_of graph p) k no_dependency))
  dependency-window p from to f t k l =
      let e = in-window dir.dependencies from to k (omega arith) ∙ ap (λ n. get_or dir.dependencies (n + k) 0) f in
      subst (λ s. ReadsAs x s (dependency (get_or (dependencies_of graph p) k no_dependency))) (sym e) (dependency-read p k l)

  pub feature-window : (p from to : ℕ) → from ≡ features_before graph p → to ≡ from + length (features_of graph p) → (k : ℕ) → k < length (features_of graph p) → ReadsAs x (get_or (take (to - from) (drop from dir.features)) k 0) (feature (get_or (features_of graph p) k no_feature))
  feature-window p from to f t k l =
      let e = in-window dir.features from to k (omega arith) ∙ ap (λ n. get_or dir.features (n + k) 0) f in
      subst (λ s. ReadsAs x s (feature (get_or (features_of graph p) k no_feature))) (sym e) (feature-read p k l)

  -- what a search in the index says of the features of a package
  pub finds-feature : (owner : ℕ) (name : List ℕ) (o : Option ℕ) → o ≡ newest_of dir.index.lists.entries owner name dir.index.lists.count → option_map (λ k. (length graph + dependency_count graph) + k) o ≡ option_map (λ j. number graph (feat owner j)) (place_of (features_of graph owner) name)
  finds-feature owner name o e = from-tables (hlevel props) (λ t.
      let s = dir.index.lists in
      let room : s.count ≤ length s.entries = omega (arith, dir.index.few, dir.index.linked.full) in
      finds-item s.entries s.count graph owner name o room t.keyed t.says.lawful.packages (found s.entries owner name s.count o e))
