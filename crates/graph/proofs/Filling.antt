-- One record more in the tables of a directory.
use Rattle.std.proofs.Common.{◌≡◌, ℕ, ◌+◌, ◌-◌, ◌<◌, ◌≤◌, Bool, true, false, List, [], ◌∷◌, ◌++◌, length, get_or, drop, set, Some, None, Ok, Err, Option, sym, refl, ap, ◌∙◌, subst, arith}
use Rattle.std.proofs.lemmas.List.{drop-drop, length-drop, get_or-set_same, get_or-set_other}
use Rattle.records.specs.declared.faults.RecordFault.{RecordFault}
use Rattle.records.specs.declared.frames.Kind.{Kind}
use Rattle.records.specs.declared.frames.Kind.TheVariants as kind
use Rattle.records.specs.Frames.{kind_at, Frame, frame_of}
use Rattle.records.specs.Graphs.{Declaration, dependency, feature, Graph}
use Rattle.records.specs.Encoding.{package_body, dependency_body, feature_body, record_bytes, declaration_bytes, header_bytes}
use Rattle.records.proofs.Numbers.{not-both, in-ok}
use Rattle.records.proofs.Framing.{frame-reads}
use Rattle.graph.specs.declared.tables.PackageEntry.{PackageEntry}
use Rattle.graph.specs.declared.tables.DeclarationEntry.{DeclarationEntry}
use Rattle.graph.specs.Limits.{max_packages, max_dependencies, max_features, max_declarations}
use Rattle.graph.specs.Law.{Says}
use Rattle.graph.specs.Second.{package_record}
use Rattle.graph.specs.Directory.{no_package, no_declaration_entry}
use Rattle.graph.specs.Filling.{is_marked, Tables, TellsDeclarations, TellsGraph, Keeps, Ahead, Midway}
use Rattle.graph.proofs.Scans.{frame-shorter}
use Rattle.graph.proofs.Sequels.{tail_bytes, part-bytes, package-bytes, graph-bytes}

-- the record in front of what lies ahead: its kind, its body, and what follows it
abbrev front_kind : List Declaration → Graph → ℕ
front_kind [] [] = 5
front_kind [] (a ∷ gs) = 2
front_kind (dependency x ∷ ps) gs = 3
front_kind (feature x ∷ ps) gs = 4

abbrev front_body : List Declaration → Graph → List ℕ
front_body [] [] = []
front_body [] (a ∷ gs) = package_body a.proc a.name
front_body (dependency x ∷ ps) gs = dependency_body x
front_body (feature x ∷ ps) gs = feature_body x

abbrev front_after : List Declaration → Graph → List ℕ → List ℕ
front_after [] [] rest = rest
front_after [] (a ∷ gs) rest = tail_bytes a.declarations gs rest
front_after (dependency x ∷ ps) gs rest = tail_bytes ps gs rest
front_after (feature x ∷ ps) gs rest = tail_bytes ps gs rest

front_bytes : (ps : List Declaration) (gs : Graph) (rest : List ℕ) → tail_bytes ps gs rest ≡ record_bytes (front_kind ps gs) (front_body ps gs) ++ front_after ps gs rest
front_bytes [] [] rest = refl
front_bytes [] (a ∷ gs) rest = package-bytes (package_record a) a.declarations gs rest
front_bytes (dependency x ∷ ps) gs rest = part-bytes (dependency x) ps gs rest
front_bytes (feature x ∷ ps) gs rest = part-bytes (feature x) ps gs rest

mark-is : (b : Bool) (name : List ℕ) → is_marked (package_body b name) ≡ b
mark-is false name = refl
mark-is true name = refl

-- a new last entry, and that it leaves those before it: each stands for three steps at each of the tables
entry_new : {X : Type 0} (us xs : List X) (x y : X) (n m : ℕ) → ((k : ℕ) → k < m → get_or us k x ≡ get_or (set xs n y) k x) → n < m → n < length xs → get_or us n x ≡ y
entry_new us xs x y n m keep l room = keep n l ∙ get_or-set_same xs n y x room

entry_old : {X : Type 0} (us xs : List X) (x y : X) (n m : ℕ) → ((k : ℕ) → k < m → get_or us k x ≡ get_or (set xs n y) k x) → n < m → (k : ℕ) → k < n → get_or us k x ≡ get_or xs k x
entry_old us xs x y n m keep l k b = keep k (omega arith) ∙ get_or-set_other xs n k y x (λ q. omega arith)

module _ (file : List ℕ) (t : Tables) (start p d f : ℕ) where
  front : (fr : Frame) → frame_of (drop start file) ≡ Ok fr → (ps : List Declaration) (gs : Graph) (m : Ahead file t start p d f ps gs) → record { kind = front_kind ps gs; body = front_body ps gs; after = front_after ps gs m.rest } ≡ fr
  front fr here ps gs m =
      in-ok {Y = RecordFault} (record { kind = front_kind ps gs; body = front_body ps gs; after = front_after ps gs m.rest }) fr
      (sym (frame-reads (front_kind ps gs) (front_body ps gs) (front_after ps gs m.rest)) ∙ ap frame_of (sym (front_bytes ps gs m.rest) ∙ sym m.bytes) ∙ here)

  -- there always is a record
  pub never-faulty : Midway file t start p d f → (e : RecordFault) → frame_of (drop start file) ≡ Err e → ⊥
  never-faulty (ps, gs, m) e h =
      not-both (sym h ∙ ap frame_of (m.bytes ∙ front_bytes ps gs m.rest) ∙ frame-reads (front_kind ps gs) (front_body ps gs) (front_after ps gs m.rest))

  -- of a known kind, which is no header's
  pub known-kind : (fr : Frame) → frame_of (drop start file) ≡ Ok fr → Midway file t start p d f → kind_at fr.kind ≡ None → ⊥
  known-kind fr here (ps, gs, m) e = go ps gs m
    where
      none : (n : ℕ) (k : Kind) → n ≡ fr.kind → kind_at n ≡ Some k → ⊥
      none n k q s = let z : ◌≡◌ {A = Option Kind} (Some k) None = sym s ∙ ap kind_at q ∙ e in absurd (let o : ◌≡◌ {A = ℕ} 0 1 = cc in omega arith)

      go : (ps : List Declaration) (gs : Graph) → Ahead file t start p d f ps gs → ⊥
      go [] [] m = none 5 kind.End (ap (λ x. x.kind) (front fr here [] [] m)) refl
      go [] (a ∷ gs) m = none 2 kind.Package (ap (λ x. x.kind) (front fr here [] (a ∷ gs) m)) refl
      go (dependency x ∷ ps) gs m = none 3 kind.Dependency (ap (λ x. x.kind) (front fr here (dependency x ∷ ps) gs m)) refl
      go (feature x ∷ ps) gs m = none 4 kind.Feature (ap (λ x. x.kind) (front fr here (feature x ∷ ps) gs m)) refl

  pub no-header : (fr : Frame) → frame_of (drop start file) ≡ Ok fr → Midway file t start p d f → fr.kind ≡ 1 → ⊥
  no-header fr here (ps, gs, m) e = go ps gs m
    where
      go : (ps : List Declaration) (gs : Graph) → Ahead file t start p d f ps gs → ⊥
      go [] [] m = omega (arith, e, ap (λ x. x.kind) (front fr here [] [] m))
      go [] (a ∷ gs) m = omega (arith, e, ap (λ x. x.kind) (front fr here [] (a ∷ gs) m))
      go (dependency x ∷ ps) gs m = omega (arith, e, ap (λ x. x.kind) (front fr here (dependency x ∷ ps) gs m))
      go (feature x ∷ ps) gs m = omega (arith, e, ap (λ x. x.kind) (front fr here (feature x ∷ ps) gs m))

  -- after the last one all is told
  pub all_told : (fr : Frame) → frame_of (drop start file) ≡ Ok fr → fr.kind ≡ 5 → Midway file t start p d f → (g : Graph) × Says file g × TellsGraph file t 0 g (length header_bytes) 0 0
  all_told fr here k (ps, gs, m) = go ps gs m
    where
      go : (ps : List Declaration) (gs : Graph) → Ahead file t start p d f ps gs → (g : Graph) × Says file g × TellsGraph file t 0 g (length header_bytes) 0 0
      go [] [] m = (m.graph, m.says, m.tells t (record { packages = λ j l. refl; dependencies = λ j l. refl; features = λ j l. refl; declarations = λ j l. refl }) tt)
      go [] (a ∷ gs) m = absurd (omega (arith, k, ap (λ x. x.kind) (front fr here [] (a ∷ gs) m)))
      go (dependency x ∷ ps) gs m = absurd (omega (arith, k, ap (λ x. x.kind) (front fr here (dependency x ∷ ps) gs m)))
      go (feature x ∷ ps) gs m = absurd (omega (arith, k, ap (λ x. x.kind) (front fr here (feature x ∷ ps) gs m)))

  -- what follows the record in front
  next-bytes : (fr : Frame) → frame_of (drop start file) ≡ Ok fr → (ps : List Declaration) (gs : Graph) (m : Ahead file t start p d f ps gs) → drop (start + (length fr.body + 6)) file ≡ front_after ps gs m.rest
  next-bytes fr here ps gs m =
      sym (drop-drop (length fr.body + 6) start file) ∙ sym (frame-shorter (drop start file) fr here).0 ∙ sym (ap (λ x. x.after) (front fr here ps gs m))

  next-within : (fr : Frame) → frame_of (drop start file) ≡ Ok fr → start ≤ length file → start + (length fr.body + 6) ≤ length file
  next-within fr here l = omega (arith, (frame-shorter (drop start file) fr here).1, length-drop start file)

  abbrev with_package : PackageEntry → Tables
  with_package e = record { packages = set t.packages p e; dependencies = t.dependencies; features = t.features; declarations = t.declarations }

  abbrev with_dependency : ℕ → DeclarationEntry → Tables
  with_dependency s e = record { packages = t.packages; dependencies = set t.dependencies d s; features = t.features; declarations = set t.declarations (d + f) e }

  abbrev with_feature : ℕ → DeclarationEntry → Tables
  with_feature s e = record { packages = t.packages; dependencies = t.dependencies; features = set t.features f s; declarations = set t.declarations (d + f) e }

  abbrev here-entry : DeclarationEntry
  here-entry = record { start = start; owner = p - 1 }

  -- a package record: there is room for it, and then it is told
  abbrev pub PackageTold : Frame → Type 0
  PackageTold fr = (p < max_packages) × (length t.packages ≡ max_packages → Midway file (with_package (record { proc_mark = is_marked fr.body; dependency = d; feature = f })) (start + (length fr.body + 6)) (p + 1) d f)

  pub package-told : (fr : Frame) → frame_of (drop start file) ≡ Ok fr → fr.kind ≡ 2 → Midway file t start p d f → PackageTold fr
  package-told fr here k (ps, gs, m) = go ps gs m
    where
      go : (ps : List Declaration) (gs : Graph) → Ahead file t start p d f ps gs → PackageTold fr
      go [] [] m = absurd (omega (arith, k, ap (λ x. x.kind) (front fr here [] [] m)))
      go [] (a ∷ gs) m =
          let x = front fr here [] (a ∷ gs) m in
          let some : p < max_packages = omega (arith, m.few_packages) in
          let e : PackageEntry = record { proc_mark = is_marked fr.body; dependency = d; feature = f } in (
            some,
            (λ room. (
              a.declarations,
              gs,
              record {
                graph = m.graph;
                says = m.says;
                rest = m.rest;
                within = next-within fr here m.within;
                bytes = next-bytes fr here [] (a ∷ gs) m;
                declarations = m.packages.0.1;
                packages = m.packages.1;
                few_packages = omega (arith, m.few_packages);
                few_dependencies = omega (arith, m.few_dependencies);
                few_features = omega (arith, m.few_features);
                tells = λ u keep told.
                    let last : get_or u.packages p no_package ≡ e = entry_new u.packages t.packages no_package e p (p + 1) keep.packages (omega arith) (omega arith) in
                    let is : e ≡ record { proc_mark = a.proc; dependency = d; feature = f } = λ i. record { proc_mark = (ap (λ y. is_marked y.body) (sym x) ∙ mark-is a.proc a.name) i; dependency = d; feature = f } in
                    let o : (p + 1) - 1 ≡ p = omega arith in
                    let s : start + (length fr.body + 6) ≡ start + length (package_record a) = omega (arith, ap (λ y. length y.body) x) in
                    let old : Keeps t u p d f = record { packages = entry_old u.packages t.packages no_package e p (p + 1) keep.packages (omega arith); dependencies = keep.dependencies; features = keep.features; declarations = keep.declarations } in
                    m.tells u old (last ∙ is, subst (λ y. TellsDeclarations file u y (TellsGraph file u (p + 1) gs) (start + length (package_record a)) d f a.declarations) o (subst (λ y. TellsDeclarations file u ((p + 1) - 1) (TellsGraph file u (p + 1) gs) y d f a.declarations) s told));
              },
            )),
          )
      go (dependency y ∷ ps) gs m = absurd (omega (arith, k, ap (λ x. x.kind) (front fr here (dependency y ∷ ps) gs m)))
      go (feature y ∷ ps) gs m = absurd (omega (arith, k, ap (λ x. x.kind) (front fr here (feature y ∷ ps) gs m)))

  -- a dependency record
  abbrev pub DependencyTold : Frame → Type 0
  DependencyTold fr = (d < max_dependencies) × (d + f < max_declarations) × (length t.dependencies ≡ max_dependencies → length t.declarations ≡ max_declarations → Midway file (with_dependency start here-entry) (start + (length fr.body + 6)) p (d + 1) f)

  pub dependency-told : (fr : Frame) → frame_of (drop start file) ≡ Ok fr → fr.kind ≡ 3 → Midway file t start p d f → DependencyTold fr
  dependency-told fr here k (ps, gs, m) = go ps gs m
    where
      go : (ps : List Declaration) (gs : Graph) → Ahead file t start p d f ps gs → DependencyTold fr
      go [] [] m = absurd (omega (arith, k, ap (λ x. x.kind) (front fr here [] [] m)))
      go [] (a ∷ gs) m = absurd (omega (arith, k, ap (λ x. x.kind) (front fr here [] (a ∷ gs) m)))
      go (feature y ∷ ps) gs m = absurd (omega (arith, k, ap (λ x. x.kind) (front fr here (feature y ∷ ps) gs m)))
      go (dependency y ∷ ps) gs m =
          let x = front fr here (dependency y ∷ ps) gs m in
          let some : d < max_dependencies = omega (arith, m.few_dependencies) in
          let both : d + f < max_declarations = omega (arith, m.few_dependencies, m.few_features) in (
            some,
            both,
            (λ room more. (
              ps,
              gs,
              record {
                graph = m.graph;
                says = m.says;
                rest = m.rest;
                within = next-within fr here m.within;
                bytes = next-bytes fr here (dependency y ∷ ps) gs m;
                declarations = m.declarations.1;
                packages = m.packages;
                few_packages = m.few_packages;
                few_dependencies = omega (arith, m.few_dependencies);
                few_features = m.few_features;
                tells = λ u keep told.
                    let kept : (j : ℕ) → j < (d + f) + 1 → get_or u.declarations j no_declaration_entry ≡ get_or (set t.declarations (d + f) here-entry) j no_declaration_entry = λ j l. keep.declarations j (omega arith) in
                    let old : Keeps t u p d f = record { packages = keep.packages; dependencies = entry_old u.dependencies t.dependencies 0 start d (d + 1) keep.dependencies (omega arith); features = keep.features; declarations = entry_old u.declarations t.declarations no_declaration_entry here-entry (d + f) ((d + f) + 1) kept (omega arith) } in
                    let s : start + (length fr.body + 6) ≡ start + length (declaration_bytes (dependency y)) = omega (arith, ap (λ z. length z.body) x) in
                    m.tells u old (
                      record { rest = tail_bytes ps gs m.rest; bytes = m.bytes ∙ part-bytes (dependency y) ps gs m.rest; lawful = m.declarations.0 },
                      entry_new u.declarations t.declarations no_declaration_entry here-entry (d + f) ((d + f) + 1) kept (omega arith) (omega arith),
                      entry_new u.dependencies t.dependencies 0 start d (d + 1) keep.dependencies (omega arith) (omega arith),
                      subst (λ z. TellsDeclarations file u (p - 1) (TellsGraph file u p gs) z (d + 1) f ps) s told,
                    );
              },
            )),
          )

  -- a feature record
  abbrev pub FeatureTold : Frame → Type 0
  FeatureTold fr = (f < max_features) × (d + f < max_declarations) × (length t.features ≡ max_features → length t.declarations ≡ max_declarations → Midway file (with_feature start here-entry) (start + (length fr.body + 6)) p d (f + 1))

  pub feature-told : (fr : Frame) → frame_of (drop start file) ≡ Ok fr → (fr.kind ≡ 2 → ⊥) → (fr.kind ≡ 3 → ⊥) → (fr.kind ≡ 5 → ⊥) → Midway file t start p d f → FeatureTold fr
  feature-told fr here k2 k3 k5 (ps, gs, m) = go ps gs m
    where
      go : (ps : List Declaration) (gs : Graph) → Ahead file t start p d f ps gs → FeatureTold fr
      go [] [] m = absurd (k5 (sym (ap (λ x. x.kind) (front fr here [] [] m))))
      go [] (a ∷ gs) m = absurd (k2 (sym (ap (λ x. x.kind) (front fr here [] (a ∷ gs) m))))
      go (dependency y ∷ ps) gs m = absurd (k3 (sym (ap (λ x. x.kind) (front fr here (dependency y ∷ ps) gs m))))
      go (feature y ∷ ps) gs m =
          let x = front fr here (feature y ∷ ps) gs m in
          let some : f < max_features = omega (arith, m.few_features) in
          let both : d + f < max_declarations = omega (arith, m.few_dependencies, m.few_features) in (
            some,
            both,
            (λ room more. (
              ps,
              gs,
              record {
                graph = m.graph;
                says = m.says;
                rest = m.rest;
                within = next-within fr here m.within;
                bytes = next-bytes fr here (feature y ∷ ps) gs m;
                declarations = m.declarations.1;
                packages = m.packages;
                few_packages = m.few_packages;
                few_dependencies = m.few_dependencies;
                few_features = omega (arith, m.few_features);
                tells = λ u keep told.
                    let kept : (j : ℕ) → j < (d + f) + 1 → get_or u.declarations j no_declaration_entry ≡ get_or (set t.declarations (d + f) here-entry) j no_declaration_entry = λ j l. keep.declarations j (omega arith) in
                    let old : Keeps t u p d f = record { packages = keep.packages; dependencies = keep.dependencies; features = entry_old u.features t.features 0 start f (f + 1) keep.features (omega arith); declarations = entry_old u.declarations t.declarations no_declaration_entry here-entry (d + f) ((d + f) + 1) kept (omega arith) } in
                    let s : start + (length fr.body + 6) ≡ start + length (declaration_bytes (feature y)) = omega (arith, ap (λ z. length z.body) x) in
                    m.tells u old (
                      record { rest = tail_bytes ps gs m.rest; bytes = m.bytes ∙ part-bytes (feature y) ps gs m.rest; lawful = m.declarations.0 },
                      entry_new u.declarations t.declarations no_declaration_entry here-entry (d + f) ((d + f) + 1) kept (omega arith) (omega arith),
                      entry_new u.features t.features 0 start f (f + 1) keep.features (omega arith) (omega arith),
                      subst (λ z. TellsDeclarations file u (p - 1) (TellsGraph file u p gs) z d (f + 1) ps) s told,
                    );
              },
            )),
          )

-- nothing is told yet after the header
pub midway_start : (file : List ℕ) (t : Tables) (g : Graph) → Says file g → Midway file t 8 0 0 0
midway_start file t g s =
    let more : List ℕ = tail_bytes [] g s.rest in
    let same : file ≡ header_bytes ++ more = s.bytes ∙ graph-bytes g s.rest in (
      [],
      g,
      record {
        graph = g;
        says = s;
        rest = s.rest;
        within = omega (arith, ap length same);
        bytes = ap (drop 8) same;
        declarations = tt;
        packages = s.lawful.packages;
        few_packages = omega (arith, s.lawful.few_packages);
        few_dependencies = omega (arith, s.lawful.few_dependencies);
        few_features = omega (arith, s.lawful.few_features);
        tells = λ u keep told. told;
      },
    )
