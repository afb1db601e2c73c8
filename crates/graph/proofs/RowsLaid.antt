-- The rows by numbers are those of the rules over places.
use Rattle.std.proofs.Common.{◌≡◌, ℕ, suc, ◌+◌, Bool, true, false, cond, ◌&&◌, List, [], ◌∷◌, ◌++◌, map, length, Some, None, codes, Option, sym, refl, ap, ◌∙◌, arith}
use Rattle.std.proofs.lemmas.List.{append-nil, append_assoc, map-append}
use Rattle.std.specs.List.{flat_map}
use Rattle.std.specs.Str.{bytes_eq}
use Rattle.text.specs.Forms.{Form, plain, switch, strong, weak}
use Rattle.records.specs.Graphs.{Dependency, Declaration, Package, Graph}
use Rattle.graph.specs.declared.rows.Row.{Row}
use Rattle.graph.specs.Law.{dependencies_in, features_in}
use Rattle.graph.specs.Places.{dep, feat, package_at, dependencies_of, features_of, number}
use Rattle.graph.specs.Rules.{lane_of, place_of, when_some, when, each, unless, ask_rule, dependency_rules, value_rules, feature_rules, package_rules}
use Rattle.graph.specs.Words.{row_of, rows}
use Rattle.graph.specs.RowLists.{ask_rows, dependency_rows, value_rows, package_rows, rows_below}

-- a map over what each element gives
map_each : {A B C : Type 0} (h : B → C) (f : ℕ → A → List B) (e : ℕ → A → List C) → ((i : ℕ) (x : A) → map h (f i x) ≡ e i x) → (k : ℕ) (xs : List A) → map h (each f k xs) ≡ each e k xs
map_each h f e is k [] = refl
map_each h f e is k (x ∷ xs) = map-append h (f k x) (each f (k + 1) xs) ∙ (λ i. is k x i ++ map_each h f e is (k + 1) xs i)

-- and over lists put together
map-joined : {A B C : Type 0} (h : B → C) (f : A → List B) (e : A → List C) → ((x : A) → map h (f x) ≡ e x) → (xs : List A) → map h (flat_map f xs) ≡ flat_map e xs
map-joined h f e is [] = refl
map-joined h f e is (x ∷ xs) = map-append h (f x) (flat_map f xs) ∙ (λ i. is x i ++ map-joined h f e is xs i)

-- and over at most one
map-some : {A B C : Type 0} (h : B → C) (o : Option A) (f : A → B) → map h (when_some o f) ≡ when_some o (λ a. h (f a))
map-some h None f = refl
map-some h (Some a) f = refl

module _ {A B C : Type 0} (h : B → C) where
  -- a map over the form of a dependency's rules
  map-dependency : (optional defaults : Bool) (a b : B) (o : Option A) (f : A → B) (xs : List B) → map h (unless optional a ++ (b ∷ [] ++ (cond defaults (when_some o f) [] ++ xs))) ≡ unless optional (h a) ++ (h b ∷ [] ++ (cond defaults (when_some o (λ x. h (f x))) [] ++ map h xs))
  map-dependency true true a b None f xs = refl
  map-dependency true true a b (Some x) f xs = refl
  map-dependency true false a b o f xs = refl
  map-dependency false true a b None f xs = refl
  map-dependency false true a b (Some x) f xs = refl
  map-dependency false false a b o f xs = refl

  -- and over the forms of a value's rules for one dependency: turn its end's feature on, or switch it on too
  map-weak : (same : Bool) (o : Option A) (f : A → B) → map h (cond same (when_some o f) []) ≡ cond same (when_some o (λ x. h (f x))) []
  map-weak true None f = refl
  map-weak true (Some x) f = refl
  map-weak false o f = refl

  map-strong : (same optional : Bool) (a : B) (o : Option A) (f : A → B) → map h (cond same (when optional a ++ when_some o f) []) ≡ cond same (when (true && optional) (h a) ++ when_some o (λ x. h (f x))) []
  map-strong true true a None f = refl
  map-strong true true a (Some x) f = refl
  map-strong true false a None f = refl
  map-strong true false a (Some x) f = refl
  map-strong false optional a o f = refl

-- or only switch it on
map-switch : {B C : Type 0} (h : B → C) (same optional : Bool) (a : B) → map h (cond same (when optional a) []) ≡ cond same (when (true && optional) (h a) ++ []) []
map-switch h true true a = refl
map-switch h true false a = refl
map-switch h false optional a = refl

-- the rows of a dependency
pub dependency-laid : (g : Graph) (p k : ℕ) (d : Dependency) → map (row_of g) (dependency_rules g p k d) ≡ dependency_rows g p (number g (dep p k)) d
dependency-laid g p k d =
    map-dependency (row_of g) d.optional d.defaults _ _ (place_of (features_of g d.end) (codes "default")) _ (flat_map (ask_rule g p k d) d.asks)
    ∙ ap (λ (rs : List Row). unless d.optional (record { rule = record { from = p; with = None; to = number g (dep p k) }; lane = Some (lane_of g d); cross = false })
    ++ (record { rule = record { from = number g (dep p k); with = None; to = d.end }; lane = Some (lane_of g d); cross = true } ∷ []
    ++ (cond d.defaults (ask_rows g (number g (dep p k)) (lane_of g d) d.end (codes "default")) [] ++ rs)))
    (map-joined (row_of g) (ask_rule g p k d) (ask_rows g (number g (dep p k)) (lane_of g d) d.end) (λ n. map-some (row_of g) (place_of (features_of g d.end) n) _) d.asks)

-- the rows of a value
pub value-laid : (g : Graph) (p j : ℕ) (v : Form (List ℕ)) → map (row_of g) (value_rules g p j v) ≡ value_rows g p (number g (feat p j)) v
value-laid g p j (plain n) = map-some (row_of g) (place_of (features_of g p) n) _
value-laid g p j (switch n) = map_each (row_of g) _ _ (λ k d. map-switch (row_of g) (bytes_eq d.name n) d.optional _) 0 (dependencies_of g p)
value-laid g p j (strong n x) = map_each (row_of g) _ _ (λ k d. map-strong (row_of g) (bytes_eq d.name n) d.optional _ (place_of (features_of g d.end) x) _) 0 (dependencies_of g p)
value-laid g p j (weak n x) = map_each (row_of g) _ _ (λ k d. map-weak (row_of g) (bytes_eq d.name n) (place_of (features_of g d.end) x) _) 0 (dependencies_of g p)

-- the rows of package p, whose parts are those of a
pub package-laid : (g : Graph) (p : ℕ) (a : Package) → (package_at g p).declarations ≡ a.declarations → map (row_of g) (package_rules g p a) ≡ package_rows g p
package-laid g p a e =
    map-append (row_of g) (each (dependency_rules g p) 0 (dependencies_in a.declarations)) (each (feature_rules g p) 0 (features_in a.declarations))
    ∙ (λ i.
    map_each (row_of g) (dependency_rules g p) (λ k. dependency_rows g p (number g (dep p k))) (dependency-laid g p) 0 (dependencies_in a.declarations) i
    ++ map_each (row_of g) (feature_rules g p) (λ k f. flat_map (value_rows g p (number g (feat p k))) f.values) (λ k f. map-joined (row_of g) (value_rules g p k) (value_rows g p (number g (feat p k))) (value-laid g p k) f.values) 0 (features_in a.declarations) i)
    ∙ ap (λ (ps : List Declaration). each (λ k. dependency_rows g p (number g (dep p k))) 0 (dependencies_in ps) ++ each (λ k f. flat_map (value_rows g p (number g (feat p k))) f.values) 0 (features_in ps)) (sym e)

-- the rows below package k, then those of the packages h that follow
packages-laid : (g : Graph) (k : ℕ) (h : Graph) → ((j : ℕ) → (package_at g (k + j)).declarations ≡ (package_at h j).declarations) → rows_below g k ++ map (row_of g) (each (package_rules g) k h) ≡ rows_below g (k + length h)
packages-laid g k [] same =
    let z : k ≡ k + 0 = omega arith in
    append-nil (rows_below g k) ∙ ap (rows_below g) z
packages-laid g k (a ∷ h) same =
    let z : k ≡ k + 0 = omega arith in
    let o : suc k ≡ k + 1 = omega arith in
    let s : (k + 1) + length h ≡ k + suc (length h) = omega arith in
    let e : (package_at g k).declarations ≡ a.declarations = ap (λ q. (package_at g q).declarations) z ∙ same 0 in
    ap (λ rs. rows_below g k ++ rs) (map-append (row_of g) (package_rules g k a) (each (package_rules g) (k + 1) h) ∙ ap (λ rs. rs ++ map (row_of g) (each (package_rules g) (k + 1) h)) (package-laid g k a e))
    ∙ sym (append_assoc (rows_below g k) (package_rows g k) (map (row_of g) (each (package_rules g) (k + 1) h)))
    ∙ ap (λ n. rows_below g n ++ map (row_of g) (each (package_rules g) (k + 1) h)) o
    ∙ packages-laid g (k + 1) h (λ j. (let m : (k + 1) + j ≡ k + suc j = omega arith in ap (λ q. (package_at g q).declarations) m) ∙ same (suc j))
    ∙ ap (rows_below g) s

-- the rows of all packages are the rows of the graph
pub rows-laid : (g : Graph) → rows_below g (length g) ≡ rows g
rows-laid g =
    let z : 0 + length g ≡ length g = omega arith in
    sym (packages-laid g 0 g (λ j. let m : 0 + j ≡ j = omega arith in ap (λ q. (package_at g q).declarations) m) ∙ ap (rows_below g) z)
