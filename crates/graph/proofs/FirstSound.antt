-- What the first reading accepts is lawful.
use Rattle.std.proofs.Common.{◌≡◌, ℕ, zero, suc, ◌+◌, ◌-◌, ◌<◌, ◌≤◌, Bool, true, false, cond, ltb, List, [], ◌∷◌, ◌++◌, length, Ok, Err, sym, refl, ap, ◌∙◌, subst, arith}
use Rattle.std.proofs.lemmas.List.{length-append, length_push}
use Rattle.std.proofs.lemmas.Bool.{ltb-false}
use Rattle.records.specs.Graphs.{dependency, feature, Graph}
use Rattle.records.specs.Encoding.{header_bytes, encode, Bytes}
use Rattle.records.proofs.Numbers.{not-both, in-ok, bytes-split}
use Rattle.graph.specs.declared.faults.FileFault.TheVariants.{Size}
use Rattle.graph.specs.Reading.{Content, header, package_head, declaration, end, Cursor, first_cursor, cursor_after, Rest, Reading, on_rest, scan, graph_in, first_reading}
use Rattle.graph.specs.Limits.{max_bytes, max_packages, max_dependencies, max_features}
use Rattle.graph.specs.Law.{Says}
use Rattle.graph.proofs.Allowances.{Allowed, body_of, content_bytes, found, onward, scan-says}
use Rattle.graph.proofs.Sequels.{May, key, may-end, may-heads, may-dependency, may-feature, tail_bytes, part-bytes, package-bytes, graph-bytes}

-- what lies ahead of a reading that succeeds
pub record Ahead (st : Cursor) (bs : List ℕ) (l : Rest) (n : ℕ) : Type 0 where
  pub tail : List ℕ
  pub bytes : bs ≡ tail_bytes l.declarations l.packages tail
  pub place : n + length tail ≡ st.start + length bs
  pub may : May st.packages st.dependencies st.keys l.declarations l.packages

-- the limits are kept so far
pub record Within (st : Cursor) : Type 0 where
  pub packages : st.packages ≤ max_packages
  pub dependencies : st.dependencies ≤ max_dependencies
  pub features : length st.keys ≤ max_features

abbrev SoundAt : List ℕ → Type 0
SoundAt bs = (st : Cursor) (l : Rest) (n : ℕ) → Bytes bs → 0 < st.number → Within st → scan st bs ≡ Ok (l, n) → Ahead st bs l n

on-rest : (F : Rest → Rest) (r : Reading) (l : Rest) (n : ℕ) → on_rest F r ≡ Ok (l, n) → (m : Rest) × (r ≡ Ok (m, n)) × (F m ≡ l)
on-rest F (Ok p) l n e =
    let q = in-ok (F p.0, p.1) (l, n) e in
    (p.0, ap (λ z. Ok (p.0, z.1)) q, ap (λ z. z.0) q)
on-rest F (Err x) l n e = absurd (not-both e)

content-length : (c : Content) (rest bs : List ℕ) → bs ≡ content_bytes c ++ rest → length (body_of c) + 6 + length rest ≡ length bs
content-length c rest bs e = omega (arith, ap length e, length-append (body_of c) rest)

module _ (bs : List ℕ) (ih : (cs : List ℕ) → length cs < length bs → SoundAt cs) (st : Cursor) (l : Rest) (n : ℕ) (fit : Bytes bs) (num : 0 < st.number) (lim : Within st) where
  -- the same of what follows the first record
  further : (c : Content) (rest : List ℕ) → bs ≡ content_bytes c ++ rest → Within (cursor_after st (found c rest)) → (m : Rest) → scan (cursor_after st (found c rest)) rest ≡ Ok (m, n) → Ahead (cursor_after st (found c rest)) rest m n
  further c rest s w m h = ih rest (omega (arith, content-length c rest bs s)) (cursor_after st (found c rest)) m n (bytes-split (content_bytes c) rest (subst Bytes s fit)).1 (omega arith) w h

  by-content : (c : Content) (rest : List ℕ) → Allowed st c → bs ≡ content_bytes c ++ rest → onward st c rest ≡ Ok (l, n) → Ahead st bs l n
  by-content header rest a s h = absurd (omega (arith, a))
  by-content (package_head x) rest a s h =
      let r = on-rest (λ m. record { declarations = []; packages = record { proc = x.proc; name = x.name; declarations = m.declarations } ∷ m.packages }) (scan (cursor_after st (found (package_head x) rest)) rest) l n h in
      let m : Rest = r.0 in
      let f = further (package_head x) rest s (record { packages = omega (arith, a.1); dependencies = lim.dependencies; features = lim.features }) m r.1 in
      subst (λ z. Ahead st bs z n) r.2 (record {
        tail = f.tail;
        bytes = s ∙ ap (λ z. content_bytes (package_head x) ++ z) f.bytes ∙ sym (package-bytes (content_bytes (package_head x)) m.declarations m.packages f.tail);
        place = omega (arith, f.place, content-length (package_head x) rest bs s);
        may = may-heads st.packages st.dependencies st.keys x.proc x.name m.declarations m.packages a.2 f.may;
      })
  by-content (declaration (dependency x)) rest a s h =
      let c : Content = declaration (dependency x) in
      let r = on-rest (λ m. record { declarations = dependency x ∷ m.declarations; packages = m.packages }) (scan (cursor_after st (found c rest)) rest) l n h in
      let m : Rest = r.0 in
      let f = further c rest s (record { packages = lim.packages; dependencies = omega (arith, a.2); features = lim.features }) m r.1 in
      subst (λ z. Ahead st bs z n) r.2 (record {
        tail = f.tail;
        bytes = s ∙ ap (λ z. content_bytes c ++ z) f.bytes ∙ sym (part-bytes (dependency x) m.declarations m.packages f.tail);
        place = omega (arith, f.place, content-length c rest bs s);
        may = may-dependency st.packages st.dependencies st.keys x m.declarations m.packages a.1 a.3 f.may;
      })
  by-content (declaration (feature x)) rest a s h =
      let c : Content = declaration (feature x) in
      let r = on-rest (λ m. record { declarations = feature x ∷ m.declarations; packages = m.packages }) (scan (cursor_after st (found c rest)) rest) l n h in
      let m : Rest = r.0 in
      let f = further c rest s (record { packages = lim.packages; dependencies = lim.dependencies; features = omega (arith, a.2, length_push st.keys (key (st.packages - 1) x.name)) }) m r.1 in
      subst (λ z. Ahead st bs z n) r.2 (record {
        tail = f.tail;
        bytes = s ∙ ap (λ z. content_bytes c ++ z) f.bytes ∙ sym (part-bytes (feature x) m.declarations m.packages f.tail);
        place = omega (arith, f.place, content-length c rest bs s);
        may = may-feature st.packages st.dependencies st.keys x m.declarations m.packages a.1 a.3 a.4 f.may;
      })
  by-content end rest a s h =
      let k : ℕ = st.start + 6 in
      let q = in-ok (record { declarations = []; packages = [] }, k) (l, n) h in
      subst (λ z. Ahead st bs z.0 z.1) q (record {
        tail = rest;
        bytes = s;
        place = omega (arith, content-length end rest bs s);
        may = may-end st.packages st.dependencies st.keys lim.packages lim.dependencies lim.features;
      })

step : (bs : List ℕ) → ((cs : List ℕ) → length cs < length bs → SoundAt cs) → SoundAt bs
step bs ih st l n fit num lim e =
    let s = scan-says st bs (l, n) fit e in
    by-content bs ih st l n fit num lim s.0 s.1 s.2 s.3 s.4

-- a reading that succeeds past the header reads what may follow, by the number of bytes
sound-below : (n : ℕ) (bs : List ℕ) → length bs ≤ n → SoundAt bs
sound-below zero bs l = step bs (λ cs k. absurd (omega arith))
sound-below (suc n) bs l = step bs (λ cs k. sound-below n cs (omega arith))

-- a file that is read says a graph
from-begin : (file : List ℕ) (l : Rest) (n : ℕ) → Bytes file → length file ≤ max_bytes → (c : Content) (rest : List ℕ) → Allowed first_cursor c → file ≡ content_bytes c ++ rest → onward first_cursor c rest ≡ Ok (l, n) → Says file l.packages × (n ≡ length (encode l.packages))
from-begin file l n fit size header rest a s h =
    let f = sound-below (length rest) rest (omega arith) (cursor_after first_cursor (found header rest)) l n (bytes-split header_bytes rest (subst Bytes s fit)).1 (omega arith) (record { packages = omega arith; dependencies = omega arith; features = omega arith }) h in
    let none : l.declarations ≡ [] = f.may.owned refl in
    let all : file ≡ encode l.packages ++ f.tail = s ∙ ap (λ z. header_bytes ++ z) (f.bytes ∙ ap (λ z. tail_bytes z l.packages f.tail) none) ∙ sym (graph-bytes l.packages f.tail) in (
      record {
        rest = f.tail;
        lawful = record { packages = f.may.lawful; few_packages = omega (arith, f.may.few_packages); few_dependencies = omega (arith, f.may.few_dependencies); few_features = omega (arith, f.may.few_features) };
        bytes = all;
        size = size;
      },
      omega (arith, f.place, ap length all, length-append (encode l.packages) f.tail, content-length header rest file s),
    )
from-begin file l n fit size (package_head x) rest a s h = absurd (omega (arith, a.0))
from-begin file l n fit size (declaration (dependency x)) rest a s h = absurd (omega (arith, a.0))
from-begin file l n fit size (declaration (feature x)) rest a s h = absurd (omega (arith, a.0))
from-begin file l n fit size end rest a s h = absurd (omega (arith, a))

pub first-sound : (file : List ℕ) → Bytes file → (g : Graph) (n : ℕ) → first_reading file ≡ Ok (g, n) → Says file g × (n ≡ length (encode g))
first-sound file fit g n e = go (ltb max_bytes (length file)) refl (scan first_cursor file) refl e
  where
    go : (t : Bool) → ltb max_bytes (length file) ≡ t → (r : Reading) → scan first_cursor file ≡ r → cond t (Err Size) (graph_in r) ≡ Ok (g, n) → Says file g × (n ≡ length (encode g))
    go true q r o h = absurd (not-both h)
    go false q (Err x) o h = absurd (not-both h)
    go false q (Ok p) o h =
        let s = scan-says first_cursor file p fit o in
        subst (λ z. Says file z.0 × (z.1 ≡ length (encode z.0))) (in-ok (p.0.packages, p.1) (g, n) h)
        (from-begin file p.0 p.1 fit (ltb-false max_bytes (length file) q) s.0 s.1 s.2 s.3 s.4)
