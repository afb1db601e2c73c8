-- What is lawful is accepted.
use Rattle.std.proofs.Common.{◌≡◌, ℕ, ◌+◌, ◌<◌, List, [], ◌∷◌, ◌++◌, length, Ok, refl, ap, ◌∙◌, arith}
use Rattle.std.proofs.lemmas.List.{length-append}
use Rattle.std.proofs.lemmas.Bool.{cond-false, le-ltb}
use Rattle.records.specs.Graphs.{Declaration, dependency, feature, Graph}
use Rattle.records.specs.Encoding.{encode}
use Rattle.graph.specs.Reading.{Content, header, package_head, declaration, end, Cursor, first_cursor, cursor_after, on_rest, scan, graph_in, first_reading}
use Rattle.graph.specs.Limits.{max_bytes}
use Rattle.graph.specs.Law.{Says}
use Rattle.graph.proofs.Allowances.{body_of, content_bytes, found, scan-reads}
use Rattle.graph.proofs.Sequels.{May, Owners, heads-may, dependency-may, feature-may, tail_bytes, part-bytes, package-bytes, graph-bytes}

-- these parts and packages are read, and n bytes with what came before
abbrev Done : Cursor → List Declaration → Graph → List ℕ → Type 0
Done st ps gs rest = (n : ℕ) → n + length rest ≡ st.start + length (tail_bytes ps gs rest) → scan st (tail_bytes ps gs rest) ≡ Ok (record { declarations = ps; packages = gs }, n)

-- where they may follow
abbrev Complete : List Declaration → Graph → List ℕ → Type 0
Complete ps gs rest = (st : Cursor) → 0 < st.number → Owners st.packages st.keys → May st.packages st.dependencies st.keys ps gs → Done st ps gs rest

-- the place after a record
place-on : (c : Content) (bs more rest : List ℕ) (start n : ℕ) → bs ≡ content_bytes c ++ more → n + length rest ≡ start + length bs → n + length rest ≡ (start + (length (body_of c) + 6)) + length more
place-on c bs more rest start n e h = omega (arith, ap length e, length-append (body_of c) more)

module _ (gs : Graph) (rest : List ℕ) (next : Complete [] gs rest) where
  parts-complete : (ps : List Declaration) → Complete ps gs rest
  parts-complete [] st num own m n h = next st num own m n h
  parts-complete (dependency x ∷ ps) st num own m n h =
      let c : Content = declaration (dependency x) in
      let more : List ℕ = tail_bytes ps gs rest in
      let q = dependency-may st.packages st.dependencies st.keys x ps gs m in
      let same : tail_bytes (dependency x ∷ ps) gs rest ≡ content_bytes c ++ more = part-bytes (dependency x) ps gs rest in
      let d : Done (cursor_after st (found c more)) ps gs rest = parts-complete ps (cursor_after st (found c more)) (omega arith) own q.3 in
      ap (scan st) same
      ∙ scan-reads st c more (num, q.0, q.1, q.2)
      ∙ ap (on_rest (λ l. record { declarations = dependency x ∷ l.declarations; packages = l.packages })) (d n (place-on c (tail_bytes (dependency x ∷ ps) gs rest) more rest st.start n same h))
  parts-complete (feature x ∷ ps) st num own m n h =
      let c : Content = declaration (feature x) in
      let more : List ℕ = tail_bytes ps gs rest in
      let q = feature-may st.packages st.dependencies st.keys x ps gs own m in
      let same : tail_bytes (feature x ∷ ps) gs rest ≡ content_bytes c ++ more = part-bytes (feature x) ps gs rest in
      let d : Done (cursor_after st (found c more)) ps gs rest = parts-complete ps (cursor_after st (found c more)) (omega arith) q.5 q.4 in
      ap (scan st) same
      ∙ scan-reads st c more (num, q.0, q.1, q.2, q.3)
      ∙ ap (on_rest (λ l. record { declarations = feature x ∷ l.declarations; packages = l.packages })) (d n (place-on c (tail_bytes (feature x ∷ ps) gs rest) more rest st.start n same h))

packages-complete : (rest : List ℕ) (gs : Graph) → Complete [] gs rest
packages-complete rest [] st num own m n h =
    let z : st.start + 6 ≡ n = omega arith in
    scan-reads st end rest num ∙ ap (λ k. Ok (record { declarations = []; packages = [] }, k)) z
packages-complete rest (g ∷ gs) st num own m n h =
    let c : Content = package_head (record { proc = g.proc; name = g.name }) in
    let more : List ℕ = tail_bytes g.declarations gs rest in
    let q = heads-may st.packages st.dependencies st.keys g gs own m in
    let bs : List ℕ = tail_bytes [] (g ∷ gs) rest in
    let same : bs ≡ content_bytes c ++ more = package-bytes (content_bytes c) g.declarations gs rest in
    let d : Done (cursor_after st (found c more)) g.declarations gs rest = parts-complete gs rest (packages-complete rest gs) g.declarations (cursor_after st (found c more)) (omega arith) q.3 q.2 in
    ap (scan st) same
    ∙ scan-reads st c more (num, q.0, q.1)
    ∙ ap (on_rest (λ l. record { declarations = []; packages = record { proc = g.proc; name = g.name; declarations = l.declarations } ∷ l.packages })) (d n (place-on c bs more rest st.start n same h))

-- a file that says a graph is read
pub scan-complete : (file : List ℕ) (g : Graph) → Says file g → scan first_cursor file ≡ Ok (record { declarations = []; packages = g }, length (encode g))
scan-complete file g s =
    let more : List ℕ = tail_bytes [] g s.rest in
    let same : file ≡ content_bytes header ++ more = s.bytes ∙ graph-bytes g s.rest in
    let m : May 0 0 [] [] g = record {
      owned = λ z. refl;
      declarations = tt;
      new = tt;
      apart = tt;
      lawful = s.lawful.packages;
      few_packages = omega (arith, s.lawful.few_packages);
      few_dependencies = omega (arith, s.lawful.few_dependencies);
      few_features = omega (arith, s.lawful.few_features);
    } in
    let h : length (encode g) + length s.rest ≡ 8 + length more = omega (arith, ap length (graph-bytes g s.rest), length-append (encode g) s.rest) in
    let d : Done (cursor_after first_cursor (found header more)) [] g s.rest = packages-complete s.rest g (cursor_after first_cursor (found header more)) (omega arith) tt m in
    ap (scan first_cursor) same ∙ scan-reads first_cursor header more refl ∙ d (length (encode g)) h

pub first-complete : (file : List ℕ) (g : Graph) → Says file g → first_reading file ≡ Ok (g, length (encode g))
first-complete file g s = cond-false _ _ _ (le-ltb max_bytes (length file) s.size) ∙ ap graph_in (scan-complete file g s)
