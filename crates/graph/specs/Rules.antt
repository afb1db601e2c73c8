-- The rules of a graph, over places.
use Rattle.std.specs.Prelude.{ℕ, Bool, true, false, List, [], ◌∷◌, ◌++◌, Some, None, codes, Option, if◌then◌else◌}
use Rattle.std.specs.List.{flat_map, enumerate_from, position}
use Rattle.std.specs.Str.{bytes_eq}
use Rattle.text.specs.Forms.{Form, plain, switch, strong, weak}
use Rattle.lanes.specs.declared.lane_numbers.Lane.{Lane}
use Rattle.records.specs.Graphs.{Dependency, Feature, Package, Graph}
use Rattle.graph.specs.Law.{dependencies_in, features_in}
use Rattle.graph.specs.Places.{ItemPlace, unit, dep, feat, dependencies_of, features_of, package_at}

-- with its premises active, `from` and `with` if there is one, a rule makes `to` active; it is of a lane, or about
-- no dependency, and with `cross` its conclusion is on the side where the lane leads
pub record Rule : Type 0 where
  pub from : ItemPlace
  pub with : Option ItemPlace
  pub to : ItemPlace
  pub lane : Option Lane
  pub cross : Bool

-- the lane of a dependency
abbrev pub lane_of : Graph → Dependency → Lane
lane_of g d = record { edge = d.edge; procedural = (package_at g d.end).proc }

-- the place of a name among some features
abbrev pub place_of : List Feature → List ℕ → Option ℕ
place_of fs n = position (λ f. bytes_eq f.name n) fs

abbrev pub when_some : {A B : Type 0} → Option A → (A → B) → List B
when_some None f = []
when_some (Some a) f = f a ∷ []

abbrev pub when : {A : Type 0} → Bool → A → List A
when b a = if b then a ∷ [] else []

-- what each element of a list gives, with its place, from place k on
abbrev pub each : {A B : Type 0} → (ℕ → A → List B) → ℕ → List A → List B
each f k xs = flat_map (λ p. f p.0 p.1) (enumerate_from k xs)

abbrev pub unless : {A : Type 0} → Bool → A → List A
unless b a = if b then [] else a ∷ []

-- dependency k of package p turns on the feature of a name of its end
abbrev pub ask_rule : Graph → ℕ → ℕ → Dependency → List ℕ → List Rule
ask_rule g p k d n =
    when_some (place_of (features_of g d.end) n) (λ j.
    record { from = dep p k; with = None; to = feat d.end j; lane = Some (lane_of g d); cross = true })

-- a dependency: from its owner's unit unless it is optional; to its end's unit, to the end's default if wanted and
-- there, to each ask
abbrev pub dependency_rules : Graph → ℕ → ℕ → Dependency → List Rule
dependency_rules g p k d =
    unless d.optional (record { from = unit p; with = None; to = dep p k; lane = Some (lane_of g d); cross = false })
    ++ (record { from = dep p k; with = None; to = unit d.end; lane = Some (lane_of g d); cross = true } ∷ []
    ++ ((if d.defaults then ask_rule g p k d (codes "default") else [])
    ++ flat_map (ask_rule g p k d) d.asks))

-- feature j turns on the optional dependency k
abbrev pub switch_rule : Graph → ℕ → ℕ → ℕ → Dependency → List Rule
switch_rule g p j k d =
    when d.optional (record { from = feat p j; with = None; to = dep p k; lane = Some (lane_of g d); cross = false })

-- feature j, with dependency k, turns on the feature of a name of its end
abbrev pub weak_rule : Graph → ℕ → ℕ → List ℕ → ℕ → Dependency → List Rule
weak_rule g p j n k d =
    when_some (place_of (features_of g d.end) n) (λ i.
    record { from = feat p j; with = Some (dep p k); to = feat d.end i; lane = Some (lane_of g d); cross = true })

-- for each dependency of a name
abbrev pub if_named : List ℕ → (ℕ → Dependency → List Rule) → ℕ → Dependency → List Rule
if_named n f k d = if bytes_eq d.name n then f k d else []

-- a value of feature j of package p
abbrev pub value_rules : Graph → ℕ → ℕ → Form (List ℕ) → List Rule
value_rules g p j (plain n) =
    when_some (place_of (features_of g p) n) (λ i.
    record { from = feat p j; with = None; to = feat p i; lane = None; cross = false })
value_rules g p j (switch n) = each (if_named n (switch_rule g p j)) 0 (dependencies_of g p)
value_rules g p j (weak n x) = each (if_named n (weak_rule g p j x)) 0 (dependencies_of g p)
value_rules g p j (strong n x) =
    each (if_named n (λ k d. switch_rule g p j k d ++ weak_rule g p j x k d)) 0 (dependencies_of g p)

abbrev pub feature_rules : Graph → ℕ → ℕ → Feature → List Rule
feature_rules g p j f = flat_map (value_rules g p j) f.values

-- package by package, its dependencies first, then its features
abbrev pub package_rules : Graph → ℕ → Package → List Rule
package_rules g p a =
    each (dependency_rules g p) 0 (dependencies_in a.declarations)
    ++ each (feature_rules g p) 0 (features_in a.declarations)

abbrev pub rules : Graph → List Rule
rules g = each (package_rules g) 0 g
