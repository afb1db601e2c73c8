-- Opening accepts exactly the files that say a lawful graph whose references are resolved.
use Rattle.std.proofs.Common.{◌≡◌, ℕ, ◌+◌, ◌*◌, ◌≤◌, Bool, true, false, cond, ltb, List, length, Ok, Err, Result, sym, refl, ap, ◌∙◌, subst}
use Rattle.std.proofs.lemmas.Bool.{cond-false, ltb-true, ltb-false, le-ltb}
use Rattle.records.proofs.Numbers.{not-both, in-ok, in-err}
use Rattle.records.specs.declared.faults.RecordFault.{RecordFault}
use Rattle.records.specs.declared.faults.RecordFault.TheVariants.{Cut, Stray, Ragged, Mark, Text, Twice, Unknown, Many}
use Rattle.records.specs.Graphs.{Graph}
use Rattle.records.specs.Encoding.{encode, Bytes}
use Rattle.graph.specs.declared.faults.InRecord.{InRecord}
use Rattle.graph.specs.declared.faults.FileFault.{FileFault}
use Rattle.graph.specs.declared.faults.FileFault.TheVariants.{Record, Size, Rows, Memory}
use Rattle.graph.specs.declared.rows.Opened.{Opened}
use Rattle.graph.specs.Reading.{first_cursor, Reading, scan, graph_in, first_reading, graph_or, graph_of}
use Rattle.graph.specs.Law.{Says}
use Rattle.graph.specs.Words.{rows, graph_words}
use Rattle.graph.specs.Second.{second_reading}
use Rattle.graph.specs.Opening.{over, opened_counts, after_first, after_second, rows_answer, open_answer, words_after, open_leaves}
use Rattle.graph.specs.Limits.{max_bytes, max_rule_rows, head_words, row_width}
use Rattle.graph.specs.OpeningLaw.{SaysNone, Behind, RecordLacks, Lacks, Opens, OpeningLaw}
use Rattle.graph.proofs.FirstFaults.{Early, first-faults, first-behind}
use Rattle.graph.proofs.FirstSound.{first-sound}
use Rattle.graph.proofs.FirstComplete.{first-complete}
use Rattle.graph.proofs.Telling.{says-one}
use Rattle.graph.proofs.Resolving.{second-resolved, resolved-second, second-amiss}

-- the graph of a file is what its first reading answers
pub graph-read : (file : List ℕ) (g : Graph) (n : ℕ) → first_reading file ≡ Ok (g, n) → graph_of file ≡ g
unfolding graph_of
graph-read file g n e = ap graph_or e

module _ (file words : List ℕ) where
  -- whether the rows of a graph are too many, and whether there is too little room for them
  abbrev many : Graph → Bool
  many g = ltb max_rule_rows (length (rows g))

  abbrev short : Graph → Bool
  short g = ltb (length words) (head_words + row_width * length (rows g))

  -- the answer for a graph of n bytes by these two
  abbrev answer : Graph → ℕ → Result (Unit {0}) InRecord → Bool → Bool → Result Opened FileFault
  answer g n r a b = after_second r (cond a (Err Rows) (cond b (Err Memory) (Ok (opened_counts g n))))

  -- what the readings and the limits let pass is opened
  graph-opens : (g : Graph) (n : ℕ) (o : Opened) → Says file g → after_second (second_reading g) (rows_answer g n words) ≡ Ok o → Opens file words g × (o ≡ opened_counts g n)
  graph-opens g n o says e = go (second_reading g) refl (many g) refl (short g) refl e
    where
      go : (r : Result (Unit {0}) InRecord) → second_reading g ≡ r → (a : Bool) → many g ≡ a → (b : Bool) → short g ≡ b → answer g n r a b ≡ Ok o → Opens file words g × (o ≡ opened_counts g n)
      go (Err x) s a p b q h = absurd (not-both h)
      go (Ok u) s true p b q h = absurd (not-both h)
      go (Ok u) s false p true q h = absurd (not-both h)
      go (Ok u) s false p false q h = (
        record { says = says; resolved = second-resolved g s; few = ltb-false max_rule_rows (length (rows g)) p; room = ltb-false (length words) (head_words + row_width * length (rows g)) q },
        sym (in-ok (opened_counts g n) o h),
      )

  -- where a graph is read and opened, its words stand in front
  leaves-words : (g : Graph) (n : ℕ) (o : Opened) → first_reading file ≡ Ok (g, n) → open_answer file words ≡ Ok o → open_leaves file words ≡ over (graph_words g) words
  leaves-words g n o q h = ap (λ r. words_after r (graph_of file) words) h ∙ ap (λ x. over (graph_words x) words) (graph-read file g n q)

  open-sound : Bytes file → (o : Opened) → open_answer file words ≡ Ok o → (g : Graph) × Opens file words g × (o ≡ opened_counts g (length (encode g))) × (open_leaves file words ≡ over (graph_words g) words)
  open-sound fit o e = go (first_reading file) refl e
    where
      go : (r : Result (Graph × ℕ) FileFault) → first_reading file ≡ r → after_first r (λ g n. after_second (second_reading g) (rows_answer g n words)) ≡ Ok o → (g : Graph) × Opens file words g × (o ≡ opened_counts g (length (encode g))) × (open_leaves file words ≡ over (graph_words g) words)
      go (Err x) q h = absurd (not-both h)
      go (Ok p) q h =
          let s = first-sound file fit p.0 p.1 q in
          let z = graph-opens p.0 p.1 o s.0 h in
          (p.0, z.0, z.1 ∙ ap (opened_counts p.0) s.1, leaves-words p.0 p.1 o q e)

  -- and what is to be opened passes
  open-complete : (g : Graph) → Opens file words g → open_answer file words ≡ Ok (opened_counts g (length (encode g)))
  open-complete g h =
      ap (λ r. after_first r (λ x n. after_second (second_reading x) (rows_answer x n words))) (first-complete file g h.says)
      ∙ ap (λ r. after_second r (rows_answer g (length (encode g)) words)) (resolved-second g h.resolved)
      ∙ cond-false _ _ _ (le-ltb max_rule_rows (length (rows g)) h.few)
      ∙ cond-false _ _ _ (le-ltb (length words) (head_words + row_width * length (rows g)) h.room)

  -- what is refused, lacks what the refusal tells
  record-lacks : (x : InRecord) → Early x.fault → SaysNone file × Behind file x.number x.start → RecordLacks file x.number x.start x.fault
  record-lacks x a n = go x.fault a
    where
      go : (f : RecordFault) → Early f → RecordLacks file x.number x.start f
      go Cut b = n
      go Stray b = n
      go (Ragged k) b = n
      go (Mark k) b = n
      go (Text t) b = n
      go (Twice k) b = n
      go (Unknown k) b = absurd b
      go Many b = n

  says-none : (e : FileFault) → length file ≤ max_bytes → first_reading file ≡ Err e → SaysNone file
  says-none e size h = (size, λ g s. not-both (sym h ∙ first-complete file g s))

  first-lacks : Bytes file → (e : FileFault) → first_reading file ≡ Err e → Lacks file words e
  first-lacks fit e h = go (ltb max_bytes (length file)) refl (scan first_cursor file) refl h
    where
      of_scan : (x : FileFault) → length file ≤ max_bytes → scan first_cursor file ≡ Err x → x ≡ e → Lacks file words e
      of_scan (Record x) size r q = subst (Lacks file words) q (record-lacks x (first-faults first_cursor file (Record x) r) (says-none (Record x) size (h ∙ ap (λ z. Err z) (sym q)), first-behind file x fit r))
      of_scan Size size r q = absurd (first-faults first_cursor file Size r)
      of_scan Rows size r q = absurd (first-faults first_cursor file Rows r)
      of_scan Memory size r q = absurd (first-faults first_cursor file Memory r)

      go : (b : Bool) → ltb max_bytes (length file) ≡ b → (r : Reading) → scan first_cursor file ≡ r → cond b (Err Size) (graph_in r) ≡ Err e → Lacks file words e
      go true q r z k = subst (Lacks file words) (in-err _ _ k) (ltb-true max_bytes (length file) q)
      go false q (Ok p) z k = absurd (not-both (sym k))
      go false q (Err x) z k = of_scan x (ltb-false max_bytes (length file) q) z (in-err _ _ k)

  second-lacks : (g : Graph) (x : InRecord) → Says file g → second_reading g ≡ Err x → Lacks file words (Record x)
  second-lacks g x s h =
      let a = second-amiss g x h in
      subst (RecordLacks file x.number x.start) (sym a.5.1) (record { graph = g; says = s; at = a.0; among = a.1; number_is = a.2; start_is = a.3; amiss = a.4 })

  graph-lacks : (g : Graph) (n : ℕ) (e : FileFault) → Says file g → after_second (second_reading g) (rows_answer g n words) ≡ Err e → Lacks file words e
  graph-lacks g n e s h = go (second_reading g) refl (many g) refl (short g) refl h
    where
      go : (r : Result (Unit {0}) InRecord) → second_reading g ≡ r → (a : Bool) → many g ≡ a → (b : Bool) → short g ≡ b → answer g n r a b ≡ Err e → Lacks file words e
      go (Err x) q a p b w k = subst (Lacks file words) (in-err _ _ k) (second-lacks g x s q)
      go (Ok u) q true p b w k = subst (Lacks file words) (in-err _ _ k) (g, s, second-resolved g q, ltb-true max_rule_rows (length (rows g)) p)
      go (Ok u) q false p true w k = subst (Lacks file words) (in-err _ _ k) (g, s, second-resolved g q, ltb-false max_rule_rows (length (rows g)) p, ltb-true (length words) (head_words + row_width * length (rows g)) w)
      go (Ok u) q false p false w k = absurd (not-both (sym k))

  open-lacks : Bytes file → (e : FileFault) → open_answer file words ≡ Err e → Lacks file words e
  open-lacks fit e h = go (first_reading file) refl h
    where
      go : (r : Result (Graph × ℕ) FileFault) → first_reading file ≡ r → after_first r (λ g n. after_second (second_reading g) (rows_answer g n words)) ≡ Err e → Lacks file words e
      go (Err x) q k = first-lacks fit e (q ∙ ap (λ z. Err z) (in-err _ _ k))
      go (Ok p) q k = graph-lacks p.0 p.1 e (first-sound file fit p.0 p.1 q).0 k

-- the law of an opening, from its two equations
pub opening-law : (file words : List ℕ) → Bytes file → (r : Result Opened FileFault) (after : List ℕ) → r ≡ open_answer file words → after ≡ open_leaves file words → OpeningLaw file words r after
opening-law file words fit r after e f = record {
  sound = λ o h.
      let z = open-sound file words fit o (sym e ∙ h) in
      (z.0, z.1, z.2, f ∙ z.3);
  complete = λ g h.
      let z = open-complete file words g h in
      (e ∙ z, f ∙ leaves-words file words g _ _ (first-complete file g h.says) z);
  once = says-one file;
  refused = λ x h. (open-lacks file words fit x (sym e ∙ h), f ∙ ap (λ q. words_after q (graph_of file) words) (sym e ∙ h));
}
