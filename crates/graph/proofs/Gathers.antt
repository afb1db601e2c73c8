-- The loop of the first reading: what was gathered and what is left make the whole.
use Rattle.std.proofs.Common.{◌≡◌, ℕ, ◌+◌, ◌-◌, ◌≤◌, true, false, List, [], ◌∷◌, ◌++◌, length, drop, Ok, Err, Result, sym, refl, ap, ◌∙◌, append_assoc, append-nil, arith}
use Rattle.std.proofs.lemmas.List.{drop-drop, length-drop}
use Rattle.std.proofs.lemmas.Bool.{true≢false, false≢true}
use Rattle.records.specs.declared.faults.RecordFault.{RecordFault}
use Rattle.records.specs.Frames.{Frame, frame, frame_of}
use Rattle.records.specs.Bodies.{feature_view}
use Rattle.records.specs.Graphs.{dependency, feature}
use Rattle.records.proofs.Numbers.{not-both, in-ok}
use Rattle.graph.specs.declared.faults.InRecord.{InRecord}
use Rattle.graph.specs.declared.faults.FileFault.{FileFault}
use Rattle.graph.specs.declared.faults.FileFault.TheVariants.{Record}
use Rattle.graph.specs.declared.contents.Content as code
use Rattle.graph.specs.declared.contents.Content.TheVariants as variant
use Rattle.graph.specs.declared.contents.ReadRecord as found
use Rattle.graph.specs.Keys.{Key}
use Rattle.graph.specs.Reading.{Content, header, package_head, declaration, end, Cursor, ReadRecord, Reading, content_of, with_content, with_frame, record_at, is_end, packages_after, dependencies_after, cursor_after, with_record, after_record, scan}
use Rattle.graph.specs.Law.{dependencies_in, dependency_count}
use Rattle.graph.specs.Gathered.{Gathered, gathered, keys_in, keys_from}
use Rattle.graph.specs.Views.{content_view, read_record_view, Fits}
use Rattle.graph.proofs.Founds.{feature-room}
use Rattle.graph.proofs.Scans.{scan-open, frame-shorter}

-- one record more is gathered from what is left
pub gathered-more : (st : Cursor) (f : Frame) (c : Content) (r : Reading) → is_end c ≡ false → gathered st (with_record st (record { content = c; frame = f }) c r) ≡ gathered (cursor_after st (record { content = c; frame = f })) r
gathered-more st f header (Ok p) n = refl
gathered-more st f header (Err e) n = refl
gathered-more st f (package_head h) (Ok p) n =
    let a : st.packages + length (record { proc = h.proc; name = h.name; declarations = p.0.declarations } ∷ p.0.packages) ≡ (st.packages + 1) + length p.0.packages = omega arith in
    let b : st.dependencies + (0 + (length (dependencies_in p.0.declarations) + dependency_count p.0.packages)) ≡ st.dependencies + (length (dependencies_in p.0.declarations) + dependency_count p.0.packages) = omega arith in
    let q : st.packages ≡ (st.packages + 1) - 1 = omega arith in
    λ i. Ok (record { read = p.1; packages = a i; dependencies = b i; keys = st.keys ++ (keys_in (q i) p.0.declarations ++ keys_from (st.packages + 1) p.0.packages) })
gathered-more st f (package_head h) (Err e) n = refl
gathered-more st f (declaration (dependency d)) (Ok p) n =
    let b : st.dependencies + (length (d ∷ dependencies_in p.0.declarations) + dependency_count p.0.packages) ≡ (st.dependencies + 1) + (length (dependencies_in p.0.declarations) + dependency_count p.0.packages) = omega arith in
    λ i. Ok (record { read = p.1; packages = st.packages + length p.0.packages; dependencies = b i; keys = st.keys ++ (keys_in (st.packages - 1) p.0.declarations ++ keys_from st.packages p.0.packages) })
gathered-more st f (declaration (dependency d)) (Err e) n = refl
gathered-more st f (declaration (feature x)) (Ok p) n =
    let k : Key = record { owner = st.packages - 1; name = x.name } in
    let q = sym (append_assoc st.keys (k ∷ []) (keys_in (st.packages - 1) p.0.declarations ++ keys_from st.packages p.0.packages)) in
    λ i. Ok (record { read = p.1; packages = st.packages + length p.0.packages; dependencies = st.dependencies + (length (dependencies_in p.0.declarations) + dependency_count p.0.packages); keys = q i })
gathered-more st f (declaration (feature x)) (Err e) n = refl
gathered-more st f end r n = absurd (true≢false n)

-- what a record that is found is made of
pub found-parts : (st : Cursor) (bs : List ℕ) (x : ReadRecord) → record_at st bs ≡ Ok x → (frame_of bs ≡ Ok x.frame) × (content_of st x.frame ≡ Ok x.content)
found-parts st bs x e = go (frame_of bs) refl e
  where
    inner : (f : Frame) → frame_of bs ≡ Ok f → (r : Result Content RecordFault) → content_of st f ≡ r → with_content st f r ≡ Ok x → (frame_of bs ≡ Ok x.frame) × (content_of st x.frame ≡ Ok x.content)
    inner f q (Ok c) o h =
        let s = in-ok (record { content = c; frame = f }) x h in
        (q ∙ ap (λ y. Ok y.frame) s, ap (λ y. content_of st y.frame) (sym s) ∙ o ∙ ap (λ y. Ok y.content) s)
    inner f q (Err y) o h = absurd (not-both h)

    go : (r : Result Frame RecordFault) → frame_of bs ≡ r → with_frame st r ≡ Ok x → (frame_of bs ≡ Ok x.frame) × (content_of st x.frame ≡ Ok x.content)
    go (Ok f) q h = inner f q (content_of st f) refl h
    go (Err y) q h = absurd (not-both h)

module _ (file : List ℕ) (st : Cursor) (all : Result Gathered FileFault) (inv : gathered st (scan st (drop st.start file)) ≡ all) where
  opened : gathered st (after_record st scan (record_at st (drop st.start file))) ≡ all
  opened = ap (gathered st) (sym (scan-open st (drop st.start file))) ∙ inv

  -- a fault is the answer
  pub loop-stops : (e : InRecord) → record_at st (drop st.start file) ≡ Err e → Err (Record e) ≡ all
  loop-stops e h = ap (λ r. gathered st (after_record st scan r)) (sym h) ∙ opened

  -- the record after this one lies in the file
  pub next-within : (x : ReadRecord) → record_at st (drop st.start file) ≡ Ok x → st.start ≤ length file → st.start + (length x.frame.body + 6) ≤ length file
  next-within x h l = omega (arith, (frame-shorter (drop st.start file) x.frame (found-parts st (drop st.start file) x h).0).1, length-drop st.start file)

  pub loop-goes : (x : ReadRecord) → record_at st (drop st.start file) ≡ Ok x → is_end x.content ≡ false → gathered (cursor_after st x) (scan (cursor_after st x) (drop (cursor_after st x).start file)) ≡ all
  loop-goes x h n =
      let f = (found-parts st (drop st.start file) x h).0 in
      let rest : x.frame.after ≡ drop (cursor_after st x).start file = (frame-shorter (drop st.start file) x.frame f).0 ∙ drop-drop (length x.frame.body + 6) st.start file in
      ap (λ bs. gathered (cursor_after st x) (scan (cursor_after st x) bs)) (sym rest)
      ∙ sym (gathered-more st x.frame x.content (scan (cursor_after st x) x.frame.after) n)
      ∙ ap (λ r. gathered st (after_record st scan r)) (sym h)
      ∙ opened

  pub loop-ends : (x : ReadRecord) → record_at st (drop st.start file) ≡ Ok x → is_end x.content ≡ true → ◌≡◌ {A = Result Gathered FileFault} (Ok (record { read = st.start + (length x.frame.body + 6); packages = st.packages; dependencies = st.dependencies; keys = st.keys })) all
  loop-ends x h n = ended x.content n ∙ ap (λ r. gathered st (after_record st scan r)) (sym h) ∙ opened
    where
      ended : (c : Content) → is_end c ≡ true → ◌≡◌ {A = Result Gathered FileFault} (Ok (record { read = st.start + (length x.frame.body + 6); packages = st.packages; dependencies = st.dependencies; keys = st.keys })) (gathered st (with_record st x c (scan (cursor_after st x) x.frame.after)))
      ended header t = absurd (false≢true t)
      ended (package_head y) t = absurd (false≢true t)
      ended (declaration y) t = absurd (false≢true t)
      ended end t =
          let a : st.packages ≡ st.packages + 0 = omega arith in
          let b : st.dependencies ≡ st.dependencies + (0 + 0) = omega arith in
          λ i. Ok (record { read = st.start + (length x.frame.body + 6); packages = a i; dependencies = b i; keys = sym (append-nil st.keys) i })

pub packages-step : (c : Content) (n : ℕ) → packages_after c n ≤ n + 1
packages-step header n = omega arith
packages-step (package_head h) n = omega arith
packages-step (declaration p) n = omega arith
packages-step end n = omega arith

pub dependencies-step : (c : Content) (n : ℕ) → dependencies_after c n ≤ n + 1
dependencies-step header n = omega arith
dependencies-step (package_head h) n = omega arith
dependencies-step (declaration (dependency d)) n = omega arith
dependencies-step (declaration (feature f)) n = omega arith
dependencies-step end n = omega arith

-- a feature that is found has room in the index
pub found-fits : (st : Cursor) (bs : List ℕ) (x : found.ReadRecord) → record_at st bs ≡ Ok (read_record_view x) → Fits (length st.keys) x.content
found-fits st bs x h = go x.content (found-parts st bs (read_record_view x) h).1
  where
    go : (c : code.Content) → content_of st (frame x.frame) ≡ Ok (content_view c) → Fits (length st.keys) c
    go variant.Header e = tt
    go (variant.Package q) e = tt
    go (variant.Dependency d) e = tt
    go (variant.Feature f) e = feature-room st (frame x.frame) (feature_view f) e
    go variant.End e = tt
