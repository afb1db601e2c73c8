-- Records that are found lie in the bytes.
use Rattle.std.proofs.Common.{◌≡◌, ℕ, ◌-◌, ◌<◌, Bool, true, false, cond, leb, length, Some, None, Ok, Err, Option, Result, refl, arith}
use Rattle.std.proofs.lemmas.Bool.{leb-false}
use Rattle.records.specs.declared.faults.RecordFault.{RecordFault}
use Rattle.records.specs.declared.faults.RecordFault.TheVariants.{Many}
use Rattle.records.specs.declared.frames.Kind.{Kind}
use Rattle.records.specs.declared.frames.Kind.TheVariants as kind
use Rattle.records.specs.Frames.{Frame}
use Rattle.records.specs.Fields.{View, header_field, end_field}
use Rattle.records.specs.Bodies.{Head, package_field, dependency_field}
use Rattle.records.specs.Graphs.{Dependency, Feature, dependency, feature}
use Rattle.records.proofs.Codes.{at}
use Rattle.records.proofs.Numbers.{not-both}
use Rattle.graph.specs.Limits.{max_features}
use Rattle.graph.specs.Reading.{Cursor, header, package_head, declaration, end, kind_here, as_content, feature_field, content_as, content_of}

-- only a feature record says a feature, and only where there is room for it
feature-reads : (st : Cursor) (v : View) (k : Option Kind) (x : Feature) → content_as k st v ≡ Ok (declaration (feature x)) → length st.keys < max_features
feature-reads st v None x e = absurd (not-both e)
feature-reads st v (Some kind.Header) x e = absurd (go (header_field v) e)
  where
    go : (r : Result (Unit {0} × View) RecordFault) → as_content (λ _. header) r ≡ Ok (declaration (feature x)) → ⊥
    go (Ok p) h = let z : ◌≡◌ {A = ℕ} 0 1 = cc in omega arith
    go (Err f) h = not-both h
feature-reads st v (Some kind.Package) x e = absurd (go (leb _ _) (package_field v) e)
  where
    go : (t : Bool) (r : Result (Head × View) RecordFault) → cond t (Err Many) (as_content package_head r) ≡ Ok (declaration (feature x)) → ⊥
    go true r h = not-both h
    go false (Ok p) h = let z : ◌≡◌ {A = ℕ} 0 1 = cc in omega arith
    go false (Err f) h = not-both h
feature-reads st v (Some kind.Dependency) x e = absurd (go (leb _ _) (dependency_field v) e)
  where
    go : (t : Bool) (r : Result (Dependency × View) RecordFault) → cond t (Err Many) (as_content (λ d. declaration (dependency d)) r) ≡ Ok (declaration (feature x)) → ⊥
    go true r h = not-both h
    go false (Ok p) h = let z : ◌≡◌ {A = ℕ} 0 1 = cc in omega arith
    go false (Err f) h = not-both h
feature-reads st v (Some kind.Feature) x e = go (leb max_features (length st.keys)) refl e
  where
    go : (t : Bool) → leb max_features (length st.keys) ≡ t → cond t (Err Many) (as_content (λ f. declaration (feature f)) (feature_field st.keys (st.packages - 1) v)) ≡ Ok (declaration (feature x)) → length st.keys < max_features
    go true q h = absurd (not-both h)
    go false q h = leb-false max_features (length st.keys) q
feature-reads st v (Some kind.End) x e = absurd (go (end_field v) e)
  where
    go : (r : Result (Unit {0} × View) RecordFault) → as_content (λ _. end) r ≡ Ok (declaration (feature x)) → ⊥
    go (Ok p) h = let z : ◌≡◌ {A = ℕ} 0 1 = cc in omega arith
    go (Err f) h = not-both h

pub feature-room : (st : Cursor) (f : Frame) (x : Feature) → content_of st f ≡ Ok (declaration (feature x)) → length st.keys < max_features
feature-room st f x e = feature-reads st (at f.body 6) (kind_here st.number st.packages f.kind) x e
