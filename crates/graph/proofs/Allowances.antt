-- One record: which contents are allowed where, and their bytes.
use Rattle.std.proofs.Common.{◌≡◌, ℕ, ◌+◌, ◌-◌, ◌<◌, Bool, true, false, cond, eqb, leb, List, [], ◌∷◌, ◌++◌, length, Some, None, Ok, Err, Option, Result, sym, refl, ap, ◌∙◌, subst, append-nil, arith}
use Rattle.std.proofs.lemmas.Option.{none-some, same_Some}
use Rattle.std.proofs.lemmas.Bool.{cond-false, eqb-true, eqb-false, ne_eqb, leb-false, lt-leb}
use Rattle.text.specs.Names.{Name}
use Rattle.text.specs.Forms.{Piece}
use Rattle.records.specs.declared.faults.RecordFault.{RecordFault}
use Rattle.records.specs.declared.faults.RecordFault.TheVariants.{Mark, Many, Twice}
use Rattle.records.specs.declared.frames.Kind.{Kind}
use Rattle.records.specs.declared.frames.Kind.TheVariants as kind
use Rattle.records.specs.Frames.{Frame, frame_of}
use Rattle.records.specs.Fields.{View, on_ok, give, word_field, name_field, end_of, end_field, version_at, header_field}
use Rattle.records.specs.Bodies.{values_field, Head, package_field, dependency_field}
use Rattle.records.specs.Graphs.{Dependency, Feature, dependency, feature}
use Rattle.records.specs.Encoding.{two, four, string, list_bytes, value, package_body, dependency_body, feature_body, record_bytes, LawfulDependency, LawfulFeature, Bytes}
use Rattle.lanes.specs.EdgeKinds.{edge_kind_number}
use Rattle.std.specs.Int.{from_bool}
use Rattle.records.proofs.Numbers.{not-both, in-ok, bytes-split}
use Rattle.records.proofs.Framing.{frame-says, frame-reads}
use Rattle.records.proofs.Codes.{at, first}
use Rattle.records.proofs.CodedFields.{word-coded, name-coded, package-closed, values-closed, dependency-closed}
use Rattle.graph.specs.Keys.{Key, has_key}
use Rattle.graph.specs.Reading.{Content, header, package_head, declaration, end, Cursor, kind_here, if_room, as_content, new_name, feature_field, content_as, content_of, ReadRecord, with_content, with_frame, cursor_after, Rest, Reading, with_record, after_record, scan}
use Rattle.graph.specs.Limits.{max_packages, max_dependencies, max_features}
use Rattle.graph.proofs.Scans.{scan-open}

-- what a record says may stand here
abbrev pub Allowed : Cursor → Content → Type 0
Allowed st header = st.number ≡ 0
Allowed st (package_head h) = (0 < st.number) × (st.packages < max_packages) × Name h.name
Allowed st (declaration (dependency d)) = (0 < st.number) × (0 < st.packages) × (st.dependencies < max_dependencies) × LawfulDependency d
Allowed st (declaration (feature f)) = (0 < st.number) × (0 < st.packages) × (length st.keys < max_features) × (has_key (st.packages - 1) f.name st.keys ≡ false) × LawfulFeature f
Allowed st end = 0 < st.number

-- the kind and the body of its record
abbrev pub kind_of : Content → ℕ
kind_of header = 1
kind_of (package_head h) = 2
kind_of (declaration (dependency d)) = 3
kind_of (declaration (feature f)) = 4
kind_of end = 5

abbrev pub body_of : Content → List ℕ
body_of header = two 1
body_of (package_head h) = package_body h.proc h.name
body_of (declaration (dependency d)) = dependency_body d
body_of (declaration (feature f)) = feature_body f
body_of end = []

-- where a kind may stand
abbrev Fits : Kind → ℕ → ℕ → ℕ → Type 0
Fits kind.Header n p k = (n ≡ 0) × (k ≡ 1)
Fits kind.Package n p k = (0 < n) × (k ≡ 2)
Fits kind.Dependency n p k = (0 < n) × (0 < p) × (k ≡ 3)
Fits kind.Feature n p k = (0 < n) × (0 < p) × (k ≡ 4)
Fits kind.End n p k = (0 < n) × (k ≡ 5)

kind_fits : (n p k : ℕ) (K : Kind) → kind_here n p k ≡ Some K → Fits K n p k
kind_fits n p k K e = go (eqb n 0) (eqb k 1) (eqb k 2) (eqb k 5) (eqb p 0) (eqb k 3) (eqb k 4) refl refl refl refl refl refl refl e
  where
    is : (L : Kind) → ◌≡◌ {A = Option Kind} (Some L) (Some K) → Fits L n p k → Fits K n p k
    is L h f = subst (λ x. Fits x n p k) (same_Some L K h) f

    go : (n0 k1 k2 k5 p0 k3 k4 : Bool) → eqb n 0 ≡ n0 → eqb k 1 ≡ k1 → eqb k 2 ≡ k2 → eqb k 5 ≡ k5 → eqb p 0 ≡ p0 → eqb k 3 ≡ k3 → eqb k 4 ≡ k4 → cond n0 (cond k1 (Some kind.Header) None) (cond k2 (Some kind.Package) (cond k5 (Some kind.End) (cond p0 None (cond k3 (Some kind.Dependency) (cond k4 (Some kind.Feature) None))))) ≡ Some K → Fits K n p k
    go true true k2 k5 p0 k3 k4 a b c d f g i h = is kind.Header h (eqb-true n 0 a, eqb-true k 1 b)
    go true false k2 k5 p0 k3 k4 a b c d f g i h = absurd (none-some K h)
    go false k1 true k5 p0 k3 k4 a b c d f g i h = is kind.Package h (omega (arith, eqb-false n 0 a), eqb-true k 2 c)
    go false k1 false true p0 k3 k4 a b c d f g i h = is kind.End h (omega (arith, eqb-false n 0 a), eqb-true k 5 d)
    go false k1 false false true k3 k4 a b c d f g i h = absurd (none-some K h)
    go false k1 false false false true k4 a b c d f g i h = is kind.Dependency h (omega (arith, eqb-false n 0 a), omega (arith, eqb-false p 0 f), eqb-true k 3 g)
    go false k1 false false false false true a b c d f g i h = is kind.Feature h (omega (arith, eqb-false n 0 a), omega (arith, eqb-false p 0 f), eqb-true k 4 i)
    go false k1 false false false false false a b c d f g i h = absurd (none-some K h)

-- a field's value becomes the content
as-content : {A : Type 0} (f : A → Content) (r : Result (A × View) RecordFault) (c : Content) → as_content f r ≡ Ok c → (a : A) × (w : View) × (r ≡ Ok (a, w)) × (f a ≡ c)
as-content f (Ok p) c e = (p.0, p.1, refl, in-ok (f p.0) c e)
as-content f (Err x) c e = absurd (not-both e)

-- a record that was read is within its limit
below-ok : {B : Type 0} (n limit : ℕ) (r : Result B RecordFault) (b : B) → if_room n limit r ≡ Ok b → (n < limit) × (r ≡ Ok b)
below-ok {B} n limit r b e = go (leb limit n) refl e
  where
    go : (t : Bool) → leb limit n ≡ t → cond t (Err Many) r ≡ Ok b → (n < limit) × (r ≡ Ok b)
    go true q h = absurd (not-both h)
    go false q h = (leb-false limit n q, h)

closed-says : (bs : List ℕ) (k : ℕ) (a : Unit {0}) (w : View) → end_of bs k ≡ Ok (a, w) → bs ≡ []
closed-says [] k a w e = refl
closed-says (b ∷ bs) k a w e = absurd (not-both e)

header-says : (bs : List ℕ) (k : ℕ) (a : Unit {0}) (w : View) → Bytes bs → header_field (at bs k) ≡ Ok (a, w) → bs ≡ two 1
header-says bs k a w fit e =
    let h = first (word_field (at bs k)) (version_at k) a w e in
    let c = word-coded.sound bs k h.0 h.1 fit h.2 in
    go h.0 h.1 (eqb h.0 1) refl c.1 h.3
  where
    go : (x : ℕ) (v : View) (t : Bool) → eqb x 1 ≡ t → bs ≡ two x ++ v.left → cond t (end_field v) (Err (Mark k)) ≡ Ok (a, w) → bs ≡ two 1
    go x v true q s h = s ∙ (λ i. two (eqb-true x 1 q i) ++ closed-says v.left v.place a w h i)
    go x v false q s h = absurd (not-both h)

package-says : (bs : List ℕ) (k : ℕ) (h : Head) (w : View) → Bytes bs → package_field (at bs k) ≡ Ok (h, w) → Name h.name × (bs ≡ package_body h.proc h.name)
package-says bs k h w fit e =
    let s = package-closed.sound bs k h w fit e in
    (s.1.1.0, s.2 ∙ ap (λ z. (from_bool h.proc ∷ []) ++ z) (append-nil (string h.name)))

pub package-reads : (h : Head) (k : ℕ) → Name h.name → (w : View) × (package_field (at (package_body h.proc h.name) k) ≡ Ok (h, w))
package-reads h k law =
    let s = package-closed.complete h k tt (tt, (law, tt)) in
    (s.0, ap (λ z. package_field (at ((from_bool h.proc ∷ []) ++ z) k)) (sym (append-nil (string h.name))) ∙ s.1)

-- the asks end a dependency's body
abbrev asks_last : Dependency → List ℕ → List ℕ
asks_last d z = two d.end ++ ((edge_kind_number d.edge ∷ []) ++ ((from_bool d.optional ∷ []) ++ ((from_bool d.defaults ∷ []) ++ (string d.name ++ z))))

dependency-says : (bs : List ℕ) (k : ℕ) (d : Dependency) (w : View) → Bytes bs → dependency_field (at bs k) ≡ Ok (d, w) → LawfulDependency d × (bs ≡ dependency_body d)
dependency-says bs k d w fit e =
    let s = dependency-closed.sound bs k d w fit e in
    let g = s.1.1.1.1.1 in
    ((s.1.0, g.0, g.1.0.0, g.1.0.1), s.2 ∙ ap (asks_last d) (append-nil (list_bytes string d.asks)))

pub dependency-reads : (d : Dependency) (k : ℕ) → LawfulDependency d → (w : View) × (dependency_field (at (dependency_body d) k) ≡ Ok (d, w))
dependency-reads d k law =
    let s = dependency-closed.complete d k tt (law.0, (tt, (tt, (tt, (law.1, ((law.2, law.3), tt)))))) in
    (s.0, ap (λ z. dependency_field (at (asks_last d z) k)) (sym (append-nil (list_bytes string d.asks))) ∙ s.1)

module _ (keys : List Key) (owner : ℕ) where
  fresh_ok : (name : Piece) (v : View) (a : Unit {0}) (w : View) → new_name keys owner name v ≡ Ok (a, w) → (has_key owner name.text keys ≡ false) × (v ≡ w)
  fresh_ok name v a w e = go (has_key owner name.text keys) refl e
    where
      go : (t : Bool) → has_key owner name.text keys ≡ t → ◌≡◌ {A = Result (Unit {0} × View) RecordFault} (cond t (Err (Twice name.place)) (Ok (tt, v))) (Ok (a, w)) → (has_key owner name.text keys ≡ false) × (v ≡ w)
      go true q h = absurd (not-both h)
      go false q h = (q, ap (λ p. p.1) (in-ok (tt, v) (a, w) h))

  abbrev after_fresh : Piece → Unit {0} → View → Result (Feature × View) RecordFault
  after_fresh name _ v = on_ok (values_field v) (λ values. give (record { name = name.text; values = values }))

  abbrev after_name : Piece → View → Result (Feature × View) RecordFault
  after_name name v = on_ok (new_name keys owner name v) (after_fresh name)

  feature-says : (bs : List ℕ) (k : ℕ) (f : Feature) (w : View) → Bytes bs → feature_field keys owner (at bs k) ≡ Ok (f, w) → (has_key owner f.name keys ≡ false) × LawfulFeature f × (bs ≡ feature_body f)
  feature-says bs k f w fit e =
      let h = first (name_field (at bs k)) after_name f w e in
      let n : Piece = h.0 in
      let c = name-coded.sound bs k n.text h.1 fit (ap (λ r. on_ok r (λ p. give p.text)) h.2) in
      let u = first (new_name keys owner n h.1) (after_fresh n) f w h.3 in
      let o = fresh_ok n h.1 u.0 u.1 u.2 in
      let x = first (values_field u.1) (λ values. give (record { name = n.text; values = values })) f w u.3 in
      let left : Bytes u.1.left = subst (λ v. Bytes v.left) o.1 (bytes-split (string n.text) h.1.left (subst Bytes c.1 fit)).1 in
      let s = values-closed.sound u.1.left u.1.place x.0 x.1 left x.2 in
      let g : Feature = record { name = n.text; values = x.0 } in
      let q : g ≡ f = ap (λ p. p.0) (in-ok (g, x.1) (f, w) x.3) in
      let all : bs ≡ feature_body g = c.1 ∙ ap (λ z. string n.text ++ z) (ap (λ v. v.left) o.1 ∙ s.2 ∙ append-nil (list_bytes value x.0)) in
      subst (λ y. (has_key owner y.name keys ≡ false) × LawfulFeature y × (bs ≡ feature_body y)) q (o.0, (c.0, s.1.0.0, s.1.0.1), all)

  -- its name, that it is a new one, and its values make a feature
  feature-from : (f : Feature) (v : View) (n : Piece) (w x y : View) → name_field v ≡ Ok (n, w) → new_name keys owner n w ≡ Ok (tt, w) → w ≡ x → values_field x ≡ Ok (f.values, y) → n.text ≡ f.name → feature_field keys owner v ≡ Ok (f, y)
  feature-from f v n w x y named new on values text =
      ap (λ r. on_ok r after_name) named
      ∙ ap (λ r. on_ok r (after_fresh n)) new
      ∙ ap (λ z. after_fresh n tt z) on
      ∙ ap (λ r. on_ok r (λ vs. give (record { name = n.text; values = vs }))) values
      ∙ ap (λ z. Ok (record { name = z; values = f.values }, y)) text

  feature-reads : (f : Feature) (k : ℕ) → has_key owner f.name keys ≡ false → LawfulFeature f → (w : View) × (feature_field keys owner (at (feature_body f) k) ≡ Ok (f, w))
  feature-reads f k new law =
      let j : ℕ = k + length (string f.name) in
      let rest : List ℕ = list_bytes value f.values in
      let c = name-coded.complete f.name rest k law.0 in
      let h = first (name_field (at (feature_body f) k)) (λ p. give p.text) f.name (at rest j) c in
      let n : Piece = h.0 in
      let q = in-ok (n.text, h.1) (f.name, at rest j) h.3 in
      let t : n.text ≡ f.name = ap (λ p. p.0) q in
      let v : h.1 ≡ at rest j = ap (λ p. p.1) q in
      let s = values-closed.complete f.values j tt ((law.1, law.2), tt) in
      let y : new_name keys owner n h.1 ≡ Ok (tt, h.1) = cond-false _ _ _ (ap (λ z. has_key owner z keys) t ∙ new) in
      (s.0, feature-from f (at (feature_body f) k) n h.1 (at (rest ++ []) j) s.0 h.2 y (v ∙ ap (λ z. at z j) (sym (append-nil rest))) s.1 t)

-- what is read is allowed, and has just its kind and body
abbrev pub Tells : Cursor → ℕ → List ℕ → Content → Type 0
Tells st k body c = Allowed st c × (k ≡ kind_of c) × (body ≡ body_of c)

module _ (st : Cursor) (k : ℕ) (body : List ℕ) (fit : Bytes body) (c : Content) where
  kind-says : (o : Option Kind) → kind_here st.number st.packages k ≡ o → content_as o st (at body 6) ≡ Ok c → Tells st k body c
  kind-says None e h = absurd (not-both h)
  kind-says (Some kind.Header) e h =
      let z = kind_fits st.number st.packages k kind.Header e in
      let r = as-content (λ _. header) (header_field (at body 6)) c h in
      subst (Tells st k body) r.3 (z.0, z.1, header-says body 6 r.0 r.1 fit r.2)
  kind-says (Some kind.Package) e h =
      let z = kind_fits st.number st.packages k kind.Package e in
      let b = below-ok st.packages max_packages (as_content package_head (package_field (at body 6))) c h in
      let r = as-content package_head (package_field (at body 6)) c b.1 in
      let s = package-says body 6 r.0 r.1 fit r.2 in
      subst (Tells st k body) r.3 ((z.0, b.0, s.0), z.1, s.1)
  kind-says (Some kind.Dependency) e h =
      let z = kind_fits st.number st.packages k kind.Dependency e in
      let b = below-ok st.dependencies max_dependencies (as_content (λ d. declaration (dependency d)) (dependency_field (at body 6))) c h in
      let r = as-content (λ d. declaration (dependency d)) (dependency_field (at body 6)) c b.1 in
      let s = dependency-says body 6 r.0 r.1 fit r.2 in
      subst (Tells st k body) r.3 ((z.0, z.1, b.0, s.0), z.2, s.1)
  kind-says (Some kind.Feature) e h =
      let z = kind_fits st.number st.packages k kind.Feature e in
      let b = below-ok (length st.keys) max_features (as_content (λ f. declaration (feature f)) (feature_field st.keys (st.packages - 1) (at body 6))) c h in
      let r = as-content (λ f. declaration (feature f)) (feature_field st.keys (st.packages - 1) (at body 6)) c b.1 in
      let s = feature-says st.keys (st.packages - 1) body 6 r.0 r.1 fit r.2 in
      subst (Tells st k body) r.3 ((z.0, z.1, b.0, s.0, s.1), z.2, s.2)
  kind-says (Some kind.End) e h =
      let z = kind_fits st.number st.packages k kind.End e in
      let r = as-content (λ _. end) (end_field (at body 6)) c h in
      subst (Tells st k body) r.3 (z.0, z.1, closed-says body 6 r.0 r.1 r.2)

-- what is allowed is read from its kind and body
content-reads : (st : Cursor) (c : Content) → Allowed st c → content_as (kind_here st.number st.packages (kind_of c)) st (at (body_of c) 6) ≡ Ok c
content-reads st header a = ap (λ n. content_as (kind_here n st.packages 1) st (at (two 1) 6)) a
content-reads st (package_head h) a =
    let n : eqb st.number 0 ≡ false = ne_eqb st.number 0 (λ z. omega (arith, a.0)) in
    let k : kind_here st.number st.packages 2 ≡ Some kind.Package = cond-false _ _ _ n in
    ap (λ o. content_as o st (at (body_of (package_head h)) 6)) k
    ∙ cond-false _ _ _ (lt-leb max_packages st.packages a.1)
    ∙ ap (as_content package_head) (package-reads h 6 a.2).1
content-reads st (declaration (dependency d)) a =
    let n : eqb st.number 0 ≡ false = ne_eqb st.number 0 (λ z. omega (arith, a.0)) in
    let p : eqb st.packages 0 ≡ false = ne_eqb st.packages 0 (λ z. omega (arith, a.1)) in
    let k : kind_here st.number st.packages 3 ≡ Some kind.Dependency = cond-false _ _ _ n ∙ cond-false _ _ _ p in
    ap (λ o. content_as o st (at (dependency_body d) 6)) k
    ∙ cond-false _ _ _ (lt-leb max_dependencies st.dependencies a.2)
    ∙ ap (as_content (λ x. declaration (dependency x))) (dependency-reads d 6 a.3).1
content-reads st (declaration (feature f)) a =
    let n : eqb st.number 0 ≡ false = ne_eqb st.number 0 (λ z. omega (arith, a.0)) in
    let p : eqb st.packages 0 ≡ false = ne_eqb st.packages 0 (λ z. omega (arith, a.1)) in
    let k : kind_here st.number st.packages 4 ≡ Some kind.Feature = cond-false _ _ _ n ∙ cond-false _ _ _ p in
    ap (λ o. content_as o st (at (feature_body f) 6)) k
    ∙ cond-false _ _ _ (lt-leb max_features (length st.keys) a.2)
    ∙ ap (as_content (λ x. declaration (feature x))) (feature-reads st.keys (st.packages - 1) f 6 a.3 a.4).1
content-reads st end a =
    let n : eqb st.number 0 ≡ false = ne_eqb st.number 0 (λ z. omega (arith, a)) in
    let k : kind_here st.number st.packages 5 ≡ Some kind.End = cond-false _ _ _ n in
    ap (λ o. content_as o st (at [] 6)) k

-- a content as found, and its bytes
abbrev pub found : Content → List ℕ → ReadRecord
found c rest = record { content = c; frame = record { kind = kind_of c; body = body_of c; after = rest } }

abbrev pub content_bytes : Content → List ℕ
content_bytes c = record_bytes (kind_of c) (body_of c)

-- what a reading makes of a content and of the bytes behind it
abbrev pub onward : Cursor → Content → List ℕ → Reading
onward st c rest = with_record st (found c rest) c (scan (cursor_after st (found c rest)) rest)

body_bytes : (k : ℕ) (body rest : List ℕ) → Bytes (record_bytes k body ++ rest) → Bytes body
body_bytes k body rest b =
    let p = bytes-split (record_bytes k body) rest b in
    let q = bytes-split (four (length body + 2)) (two k ++ body) p.0 in
    (bytes-split (two k) body q.1).1

-- a reading that succeeds begins with an allowed content
pub scan-says : (st : Cursor) (bs : List ℕ) (p : Rest × ℕ) → Bytes bs → scan st bs ≡ Ok p → (c : Content) × (rest : List ℕ) × Allowed st c × (bs ≡ content_bytes c ++ rest) × (onward st c rest ≡ Ok p)
scan-says st bs p fit e = go (frame_of bs) refl (sym (scan-open st bs) ∙ e)
  where
    inner : (f : Frame) → bs ≡ record_bytes f.kind f.body ++ f.after → (r : Result Content RecordFault) → content_of st f ≡ r → after_record st scan (with_content st f r) ≡ Ok p → (c : Content) × (rest : List ℕ) × Allowed st c × (bs ≡ content_bytes c ++ rest) × (onward st c rest ≡ Ok p)
    inner f s (Err x) q h = absurd (not-both h)
    inner f s (Ok c) q h =
        let t = kind-says st f.kind f.body (body_bytes f.kind f.body f.after (subst Bytes s fit)) c (kind_here st.number st.packages f.kind) refl q in
        let x : f ≡ (found c f.after).frame = λ i. record { kind = t.1 i; body = t.2 i; after = f.after } in (
          c,
          f.after,
          t.0,
          s ∙ (λ i. record_bytes (t.1 i) (t.2 i) ++ f.after),
          ap (λ g. after_record st scan (Ok (record { content = c; frame = g }))) (sym x) ∙ h,
        )

    go : (r : Result Frame RecordFault) → frame_of bs ≡ r → after_record st scan (with_frame st r) ≡ Ok p → (c : Content) × (rest : List ℕ) × Allowed st c × (bs ≡ content_bytes c ++ rest) × (onward st c rest ≡ Ok p)
    go (Err x) q h = absurd (not-both h)
    go (Ok f) q h = inner f (frame-says bs f fit q) (content_of st f) refl h

-- an allowed content is read, whatever follows
pub scan-reads : (st : Cursor) (c : Content) (rest : List ℕ) → Allowed st c → scan st (content_bytes c ++ rest) ≡ onward st c rest
scan-reads st c rest a =
    scan-open st (content_bytes c ++ rest)
    ∙ ap (λ r. after_record st scan (with_frame st r)) (frame-reads (kind_of c) (body_of c) rest)
    ∙ ap (λ r. after_record st scan (with_content st (found c rest).frame r)) (content-reads st c a)
