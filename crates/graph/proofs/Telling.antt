-- What filled tables tell, by number.
use Rattle.std.proofs.Common.{◌≡◌, ℕ, zero, suc, ◌+◌, ◌<◌, List, [], ◌∷◌, ◌++◌, length, get_or, sym, refl, ap, ◌∙◌, subst, arith}
use Rattle.records.proofs.Numbers.{in-ok}
use Rattle.records.specs.Graphs.{Declaration, dependency, feature, Package, Graph}
use Rattle.records.specs.Encoding.{declaration_bytes, header_bytes, encode}
use Rattle.graph.specs.declared.contents.Counts.{Counts}
use Rattle.graph.specs.declared.faults.FileFault.{FileFault}
use Rattle.graph.specs.declared.index.Index.{Index}
use Rattle.graph.specs.declared.tables.Directory.{Directory}
use Rattle.graph.specs.Law.{dependencies_in, features_in, Says}
use Rattle.graph.specs.Places.{dependencies_of, features_of, package_at, dependencies_before, features_before, no_dependency, no_feature}
use Rattle.graph.specs.Second.{DeclarationPlace, places_in_package, places_from, declaration_places, package_record, declarations_length}
use Rattle.graph.specs.Views.{keys}
use Rattle.graph.specs.Directory.{RecordAt, no_package, no_declaration_entry, no_place, Accepted, Tells}
use Rattle.graph.specs.Filling.{Tables, tables_of, TellsDeclarations, TellsGraph}
use Rattle.graph.proofs.FirstComplete.{first-complete}

-- three equal numbers at once, for three `subst` at each use
moved : (k : ℕ → ℕ → ℕ → Type 0) (a b c x y z : ℕ) → a ≡ x → b ≡ y → c ≡ z → k a b c → k x y z
moved k a b c x y z p q r h = subst (λ i. k i y z) p (subst (λ i. k a i z) q (subst (λ i. k a b i) r h))

module _ (file : List ℕ) (t : Tables) where
  -- what is asked after the parts
  after-parts : (owner : ℕ) (k : ℕ → ℕ → ℕ → Type 0) (ps : List Declaration) (start d f : ℕ) → TellsDeclarations file t owner k start d f ps → k (start + declarations_length ps) (d + length (dependencies_in ps)) (f + length (features_in ps))
  after-parts owner k [] start d f h = moved k start d f (start + 0) (d + 0) (f + 0) (omega arith) (omega arith) (omega arith) h
  after-parts owner k (dependency x ∷ ps) start d f h =
      moved k ((start + length (declaration_bytes (dependency x))) + declarations_length ps) ((d + 1) + length (dependencies_in ps)) (f + length (features_in ps)) _ _ _ (omega arith) (omega arith) refl
      (after-parts owner k ps (start + length (declaration_bytes (dependency x))) (d + 1) f h.3)
  after-parts owner k (feature x ∷ ps) start d f h =
      moved k ((start + length (declaration_bytes (feature x))) + declarations_length ps) (d + length (dependencies_in ps)) ((f + 1) + length (features_in ps)) _ _ _ (omega arith) refl (omega arith)
      (after-parts owner k ps (start + length (declaration_bytes (feature x))) d (f + 1) h.3)

  after-package : (a : Package) (g : Graph) (p start d f : ℕ) → TellsGraph file t p (a ∷ g) start d f → TellsGraph file t (p + 1) g ((start + length (package_record a)) + declarations_length a.declarations) (d + length (dependencies_in a.declarations)) (f + length (features_in a.declarations))
  after-package a g p start d f h = after-parts p (TellsGraph file t (p + 1) g) a.declarations (start + length (package_record a)) d f h.1

  packages-told : (g : Graph) (p start d f : ℕ) → TellsGraph file t p g start d f → (i : ℕ) → i < length g → get_or t.packages (p + i) no_package ≡ record { proc_mark = (package_at g i).proc; dependency = d + dependencies_before g i; feature = f + features_before g i }
  packages-told [] p start d f h i l = absurd (omega arith)
  packages-told (a ∷ g) p start d f h zero l =
      let x : p + 0 ≡ p = omega arith in
      let y : d ≡ d + 0 = omega arith in
      let z : f ≡ f + 0 = omega arith in
      ap (λ n. get_or t.packages n no_package) x ∙ h.0 ∙ (λ j. record { proc_mark = a.proc; dependency = y j; feature = z j })
  packages-told (a ∷ g) p start d f h (suc i) l =
      let x : p + suc i ≡ (p + 1) + i = omega arith in
      let m : ℕ = length (dependencies_in a.declarations) in
      let n : ℕ = length (features_in a.declarations) in
      let y : (d + m) + dependencies_before g i ≡ d + (m + dependencies_before g i) = omega arith in
      let z : (f + n) + features_before g i ≡ f + (n + features_before g i) = omega arith in
      ap (λ j. get_or t.packages j no_package) x ∙ packages-told g (p + 1) _ (d + m) (f + n) (after-package a g p start d f h) i (omega arith) ∙ (λ j. record { proc_mark = (package_at g i).proc; dependency = y j; feature = z j })

  -- the record of dependency i stands where the table says
  abbrev DependencyAt : ℕ → List Declaration → ℕ → Type 0
  DependencyAt n ps i = RecordAt file (get_or t.dependencies n 0) (dependency (get_or (dependencies_in ps) i no_dependency))

  own-dependencies : (owner : ℕ) (k : ℕ → ℕ → ℕ → Type 0) (ps : List Declaration) (start d f : ℕ) → TellsDeclarations file t owner k start d f ps → (i : ℕ) → i < length (dependencies_in ps) → DependencyAt (d + i) ps i
  own-dependencies owner k [] start d f h i l = absurd (omega arith)
  own-dependencies owner k (dependency x ∷ ps) start d f h zero l =
      let z : d ≡ d + 0 = omega arith in
      subst (λ s. RecordAt file s (dependency x)) (sym h.2 ∙ ap (λ n. get_or t.dependencies n 0) z) h.0
  own-dependencies owner k (dependency x ∷ ps) start d f h (suc i) l =
      let z : (d + 1) + i ≡ d + suc i = omega arith in
      subst (λ n. DependencyAt n ps i) z (own-dependencies owner k ps _ (d + 1) f h.3 i (omega arith))
  own-dependencies owner k (feature x ∷ ps) start d f h i l = own-dependencies owner k ps _ d (f + 1) h.3 i l

  dependencies-told : (g : Graph) (p start d f : ℕ) → TellsGraph file t p g start d f → (q i : ℕ) → i < length (dependencies_of g q) → RecordAt file (get_or t.dependencies (d + (dependencies_before g q + i)) 0) (dependency (get_or (dependencies_of g q) i no_dependency))
  dependencies-told [] p start d f h q i l = absurd (omega arith)
  dependencies-told (a ∷ g) p start d f h zero i l =
      let z : d + i ≡ d + (0 + i) = omega arith in
      subst (λ n. DependencyAt n a.declarations i) z (own-dependencies p (TellsGraph file t (p + 1) g) a.declarations (start + length (package_record a)) d f h.1 i l)
  dependencies-told (a ∷ g) p start d f h (suc q) i l =
      let m : ℕ = length (dependencies_in a.declarations) in
      let z : (d + m) + (dependencies_before g q + i) ≡ d + ((m + dependencies_before g q) + i) = omega arith in
      subst (λ n. RecordAt file (get_or t.dependencies n 0) (dependency (get_or (dependencies_of g q) i no_dependency))) z (dependencies-told g (p + 1) _ (d + m) _ (after-package a g p start d f h) q i l)

  -- the record of feature i stands where the table says
  abbrev FeatureAt : ℕ → List Declaration → ℕ → Type 0
  FeatureAt n ps i = RecordAt file (get_or t.features n 0) (feature (get_or (features_in ps) i no_feature))

  own-features : (owner : ℕ) (k : ℕ → ℕ → ℕ → Type 0) (ps : List Declaration) (start d f : ℕ) → TellsDeclarations file t owner k start d f ps → (i : ℕ) → i < length (features_in ps) → FeatureAt (f + i) ps i
  own-features owner k [] start d f h i l = absurd (omega arith)
  own-features owner k (feature x ∷ ps) start d f h zero l =
      let z : f ≡ f + 0 = omega arith in
      subst (λ s. RecordAt file s (feature x)) (sym h.2 ∙ ap (λ n. get_or t.features n 0) z) h.0
  own-features owner k (feature x ∷ ps) start d f h (suc i) l =
      let z : (f + 1) + i ≡ f + suc i = omega arith in
      subst (λ n. FeatureAt n ps i) z (own-features owner k ps _ d (f + 1) h.3 i (omega arith))
  own-features owner k (dependency x ∷ ps) start d f h i l = own-features owner k ps _ (d + 1) f h.3 i l

  features-told : (g : Graph) (p start d f : ℕ) → TellsGraph file t p g start d f → (q i : ℕ) → i < length (features_of g q) → RecordAt file (get_or t.features (f + (features_before g q + i)) 0) (feature (get_or (features_of g q) i no_feature))
  features-told [] p start d f h q i l = absurd (omega arith)
  features-told (a ∷ g) p start d f h zero i l =
      let z : f + i ≡ f + (0 + i) = omega arith in
      subst (λ n. FeatureAt n a.declarations i) z (own-features p (TellsGraph file t (p + 1) g) a.declarations (start + length (package_record a)) d f h.1 i l)
  features-told (a ∷ g) p start d f h (suc q) i l =
      let m : ℕ = length (features_in a.declarations) in
      let z : (f + m) + (features_before g q + i) ≡ f + ((m + features_before g q) + i) = omega arith in
      subst (λ n. RecordAt file (get_or t.features n 0) (feature (get_or (features_of g q) i no_feature))) z (features-told g (p + 1) _ _ (f + m) (after-package a g p start d f h) q i l)

  -- the table of all records, from number j on
  abbrev PartAt : ℕ → DeclarationPlace → Type 0
  PartAt j x = RecordAt file (get_or t.declarations j no_declaration_entry).start x.declaration × (get_or t.declarations j no_declaration_entry ≡ record { start = x.start; owner = x.owner })

  abbrev PartsFrom : ℕ → List DeclarationPlace → Type 0
  PartsFrom j [] = Unit {0}
  PartsFrom j (x ∷ xs) = PartAt j x × PartsFrom (j + 1) xs

  from_at : (j : ℕ) (xs : List DeclarationPlace) → PartsFrom j xs → (i : ℕ) → i < length xs → PartAt (j + i) (get_or xs i no_place)
  from_at j [] h i l = absurd (omega arith)
  from_at j (x ∷ xs) h zero l = let z : j ≡ j + 0 = omega arith in subst (λ n. PartAt n x) z h.0
  from_at j (x ∷ xs) h (suc i) l = let z : (j + 1) + i ≡ j + suc i = omega arith in subst (λ n. PartAt n (get_or xs i no_place)) z (from_at (j + 1) xs h.1 i (omega arith))

  from-append : (j : ℕ) (xs ys : List DeclarationPlace) → PartsFrom j xs → PartsFrom (j + length xs) ys → PartsFrom j (xs ++ ys)
  from-append j [] ys h k = let z : j + 0 ≡ j = omega arith in subst (λ n. PartsFrom n ys) z k
  from-append j (x ∷ xs) ys h k = let z : j + suc (length xs) ≡ (j + 1) + length xs = omega arith in (h.0, from-append (j + 1) xs ys h.1 (subst (λ n. PartsFrom n ys) z k))

  own-parts : (owner : ℕ) (k : ℕ → ℕ → ℕ → Type 0) (ps : List Declaration) (start d f number : ℕ) → TellsDeclarations file t owner k start d f ps → PartsFrom (d + f) (places_in_package number start owner ps)
  own-parts owner k [] start d f number h = tt
  own-parts owner k (dependency x ∷ ps) start d f number h =
      let z : (d + 1) + f ≡ (d + f) + 1 = omega arith in (
        (subst (λ s. RecordAt file s (dependency x)) (sym (ap (λ e. e.start) h.1)) h.0, h.1),
        subst (λ n. PartsFrom n (places_in_package (number + 1) (start + length (declaration_bytes (dependency x))) owner ps)) z (own-parts owner k ps (start + length (declaration_bytes (dependency x))) (d + 1) f (number + 1) h.3),
      )
  own-parts owner k (feature x ∷ ps) start d f number h =
      let z : d + (f + 1) ≡ (d + f) + 1 = omega arith in (
        (subst (λ s. RecordAt file s (feature x)) (sym (ap (λ e. e.start) h.1)) h.0, h.1),
        subst (λ n. PartsFrom n (places_in_package (number + 1) (start + length (declaration_bytes (feature x))) owner ps)) z (own-parts owner k ps (start + length (declaration_bytes (feature x))) d (f + 1) (number + 1) h.3),
      )

  parts-told : (g : Graph) (p start d f number : ℕ) → TellsGraph file t p g start d f → PartsFrom (d + f) (places_from number start p g)
  parts-told [] p start d f number h = tt
  parts-told (a ∷ g) p start d f number h =
      let at : ℕ = start + length (package_record a) in
      let own : List DeclarationPlace = places_in_package (number + 1) at p a.declarations in
      let others : List DeclarationPlace = places_from ((number + 1) + length a.declarations) (at + declarations_length a.declarations) (p + 1) g in
      let m : ℕ = length (dependencies_in a.declarations) in
      let n : ℕ = length (features_in a.declarations) in
      let z : (d + m) + (f + n) ≡ (d + f) + length own = omega (arith, placed-length a.declarations (number + 1) at p) in
      from-append (d + f) own others (own-parts p (TellsGraph file t (p + 1) g) a.declarations at d f (number + 1) h.1)
      (subst (λ j. PartsFrom j others) z (parts-told g (p + 1) (at + declarations_length a.declarations) (d + m) (f + n) ((number + 1) + length a.declarations) (after-package a g p start d f h)))
    where
      placed-length : (ps : List Declaration) (number start owner : ℕ) → length (places_in_package number start owner ps) ≡ length (dependencies_in ps) + length (features_in ps)
      placed-length [] number start owner = refl
      placed-length (dependency x ∷ ps) number start owner = omega (arith, placed-length ps (number + 1) (start + length (declaration_bytes (dependency x))) owner)
      placed-length (feature x ∷ ps) number start owner = omega (arith, placed-length ps (number + 1) (start + length (declaration_bytes (feature x))) owner)

  -- of a whole graph
  module _ (g : Graph) (told : TellsGraph file t 0 g (length header_bytes) 0 0) where
    pub package-entry : (p : ℕ) → p < length g → get_or t.packages p no_package ≡ record { proc_mark = (package_at g p).proc; dependency = dependencies_before g p; feature = features_before g p }
    package-entry p l =
        let x : p ≡ 0 + p = omega arith in
        let y : 0 + dependencies_before g p ≡ dependencies_before g p = omega arith in
        let z : 0 + features_before g p ≡ features_before g p = omega arith in
        ap (λ n. get_or t.packages n no_package) x ∙ packages-told g 0 (length header_bytes) 0 0 told p l ∙ (λ i. record { proc_mark = (package_at g p).proc; dependency = y i; feature = z i })

    pub dependency-entry : (p k : ℕ) → k < length (dependencies_of g p) → RecordAt file (get_or t.dependencies (dependencies_before g p + k) 0) (dependency (get_or (dependencies_of g p) k no_dependency))
    dependency-entry p k l =
        let z : 0 + (dependencies_before g p + k) ≡ dependencies_before g p + k = omega arith in
        subst (λ n. RecordAt file (get_or t.dependencies n 0) (dependency (get_or (dependencies_of g p) k no_dependency))) z (dependencies-told g 0 (length header_bytes) 0 0 told p k l)

    pub feature-entry : (p k : ℕ) → k < length (features_of g p) → RecordAt file (get_or t.features (features_before g p + k) 0) (feature (get_or (features_of g p) k no_feature))
    feature-entry p k l =
        let z : 0 + (features_before g p + k) ≡ features_before g p + k = omega arith in
        subst (λ n. RecordAt file (get_or t.features n 0) (feature (get_or (features_of g p) k no_feature))) z (features-told g 0 (length header_bytes) 0 0 told p k l)

    pub part-entry : (j : ℕ) → j < length (declaration_places g) → RecordAt file (get_or t.declarations j no_declaration_entry).start (get_or (declaration_places g) j no_place).declaration × (get_or t.declarations j no_declaration_entry ≡ record { start = (get_or (declaration_places g) j no_place).start; owner = (get_or (declaration_places g) j no_place).owner })
    part-entry j l =
        let z : 0 + j ≡ j = omega arith in
        subst (λ n. PartAt n (get_or (declaration_places g) j no_place)) z (from_at 0 (declaration_places g) (parts-told g 0 (length header_bytes) 0 0 1 told) j l)

-- a file says one graph at most
pub says-one : (file : List ℕ) (g h : Graph) → Says file g → Says file h → g ≡ h
says-one file g h a b = ap (λ p. p.0) (in-ok {Y = FileFault} (g, length (encode g)) (h, length (encode h)) (sym (first-complete file g a) ∙ first-complete file h b))

-- a directory with filled tables
pub directory-tells : (dir : Directory) (index : Index) (counts : Counts) → dir.index ≡ index → dir.counts ≡ counts → (h : Graph) → Says index.file.now h → TellsGraph index.file.now (tables_of dir) 0 h (length header_bytes) 0 0 → (g : Graph) → Accepted index counts g → Tells dir g
directory-tells dir index counts same count h says told g a =
    let one : h ≡ g = says-one index.file.now h g says a.says in
    let all : TellsGraph dir.index.file.now (tables_of dir) 0 g (length header_bytes) 0 0 =
    subst (λ i. TellsGraph i.file.now (tables_of dir) 0 g (length header_bytes) 0 0) (sym same) (subst (λ x. TellsGraph index.file.now (tables_of dir) 0 x (length header_bytes) 0 0) one told) in
    record {
      says = subst (λ i. Says i.file.now g) (sym same) a.says;
      keyed = ap keys same ∙ a.keyed;
      counted = count ∙ a.counted;
      packaged = package-entry dir.index.file.now (tables_of dir) g all;
      depending = dependency-entry dir.index.file.now (tables_of dir) g all;
      featuring = feature-entry dir.index.file.now (tables_of dir) g all;
      parted = part-entry dir.index.file.now (tables_of dir) g all;
    }
