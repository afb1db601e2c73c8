-- Opening, step by step.
use Rattle.std.proofs.Common.{◌≡◌, ℕ, ◌+◌, ◌*◌, ◌≤◌, List, [], ◌∷◌, ◌++◌, length, take, drop, set, Ok, Err, Result, sym, refl, ap, ◌∙◌, subst, arith}
use Rattle.std.proofs.lemmas.List.{length-append}
use Rattle.std.specs.List.{flat_map}
use Rattle.records.specs.Graphs.{Graph}
use Rattle.graph.specs.declared.faults.InRecord.{InRecord}
use Rattle.graph.specs.declared.faults.FileFault.{FileFault}
use Rattle.graph.specs.declared.faults.FileFault.TheVariants.{Record}
use Rattle.graph.specs.declared.rows.Opened.{Opened}
use Rattle.graph.specs.declared.rows.Row.{Row}
use Rattle.graph.specs.declared.tables.Directory.{Directory}
use Rattle.graph.specs.Depending.{Indexed}
use Rattle.graph.specs.Directory.{Tells, ReadAs}
use Rattle.graph.specs.Law.{Says, dependency_count, feature_count}
use Rattle.graph.specs.Opening.{over, after_first, after_second, rows_answer, open_answer, words_after, open_leaves}
use Rattle.graph.specs.OpeningLaw.{RulesLaw}
use Rattle.graph.specs.Reading.{first_reading, graph_of}
use Rattle.graph.specs.Words.{row_words, rows, graph_words}
use Rattle.graph.specs.Second.{second_reading}
use Rattle.graph.proofs.OpenLaw.{graph-read}
use Rattle.graph.proofs.RulesStand.{rules-law}

-- a first reading that is refused
pub first-refused : (file words : List ℕ) (e : FileFault) → first_reading file ≡ Err e → open_answer file words ≡ Err e
first-refused file words e h = ap (λ r. after_first r (λ g n. after_second (second_reading g) (rows_answer g n words))) h

-- one that is accepted
module _ (file words : List ℕ) (dir : Directory) (read : ReadAs file (Ok tt) dir) where
  abbrev its : Graph
  its = graph_of dir.index.file.now

  graph : its ≡ read.1.0
  graph = ap graph_of read.0 ∙ graph-read file read.1.0 dir.counts.read read.1.1

  pub told : Tells dir its
  told = subst (Tells dir) (sym graph) read.1.2

  pub named : Indexed dir.named its
  named = subst (Indexed dir.named) (sym graph) read.1.3

  pub from_second : open_answer file words ≡ after_second (second_reading its) (rows_answer its dir.counts.read words)
  from_second =
      ap (λ r. after_first r (λ g n. after_second (second_reading g) (rows_answer g n words))) read.1.1
      ∙ ap (λ g. after_second (second_reading g) (rows_answer g dir.counts.read words)) (sym graph)

  pub second-refused : (e : InRecord) → Err e ≡ second_reading its → open_answer file words ≡ Err (Record e)
  second-refused e h = from_second ∙ ap (λ r. after_second r (rows_answer its dir.counts.read words)) (sym h)

  pub both-accept : Ok tt ≡ second_reading its → open_answer file words ≡ rows_answer its dir.counts.read words
  both-accept h = from_second ∙ ap (λ r. after_second r (rows_answer its dir.counts.read words)) (sym h)

  -- what is left after an answer, by the graph of the file
  pub left-by : (r : Result Opened FileFault) (after : List ℕ) → r ≡ open_answer file words → after ≡ words_after r its words → after ≡ open_leaves file words
  left-by r after e f = f ∙ ap (λ g. words_after r g words) (ap graph_of read.0) ∙ ap (λ q. words_after q (graph_of file) words) e

-- a refusal leaves the words as they were
pub left-as-they-were : (file words : List ℕ) (e : FileFault) → open_answer file words ≡ Err e → words ≡ open_leaves file words
left-as-they-were file words e h = ap (λ q. words_after q (graph_of file) words) (sym h)

pub opened-rules : (file : List ℕ) (g : Graph) → Says file g → RulesLaw g
opened-rules file g s = rules-law g s.lawful

-- the words of a graph: the rows, then the four counts before them
pub rows-length : (rs : List Row) → length (flat_map row_words rs) ≡ 5 * length rs
rows-length [] = refl
rows-length (r ∷ rs) = length-append (row_words r) (flat_map row_words rs) ∙ omega (arith, rows-length rs)

head-set : (ws tail : List ℕ) (a b c d : ℕ) → 4 ≤ length ws → set (set (set (set (take 4 ws ++ tail) 0 a) 1 b) 2 c) 3 d ≡ a ∷ b ∷ c ∷ d ∷ tail
head-set [] tail a b c d l = absurd (omega (arith, l))
head-set (x ∷ []) tail a b c d l = absurd (omega (arith, l))
head-set (x ∷ y ∷ []) tail a b c d l = absurd (omega (arith, l))
head-set (x ∷ y ∷ z ∷ []) tail a b c d l = absurd (omega (arith, l))
head-set (x ∷ y ∷ z ∷ u ∷ ws) tail a b c d l = refl

pub words-written : (g : Graph) (words laid : List ℕ) → 4 + 5 * length (rows g) ≤ length words → laid ≡ take 4 words ++ (flat_map row_words (rows g) ++ drop (4 + 5 * length (rows g)) words) → set (set (set (set laid 0 (length g)) 1 (dependency_count g)) 2 (feature_count g)) 3 (length (rows g)) ≡ over (graph_words g) words
words-written g words laid room e =
    let n : 4 + 5 * length (rows g) ≡ length (graph_words g) = omega (arith, rows-length (rows g)) in
    ap (λ ws. set (set (set (set ws 0 (length g)) 1 (dependency_count g)) 2 (feature_count g)) 3 (length (rows g))) e
    ∙ head-set words _ _ _ _ _ (omega arith)
    ∙ ap (λ k. graph_words g ++ drop k words) n
