-- Opening a graph file.
use Rattle.std.specs.Prelude.{ℕ, List, ◌++◌, length, drop, Ok, Err, Result, nat_lt, if◌then◌else◌}
use Rattle.records.specs.Graphs.{Graph}
use Rattle.graph.specs.declared.faults.InRecord.{InRecord}
use Rattle.graph.specs.declared.faults.FileFault.{FileFault}
use Rattle.graph.specs.declared.faults.FileFault.TheVariants.{Record, Rows, Memory}
use Rattle.graph.specs.declared.rows.Opened.{Opened}
use Rattle.graph.specs.Reading.{first_reading, graph_of}
use Rattle.graph.specs.Limits.{max_rule_rows}
use Rattle.graph.specs.Law.{dependency_count, feature_count}
use Rattle.graph.specs.Words.{rows, graph_words, row_start}
use Rattle.graph.specs.Second.{second_reading}

-- words in the place of as many at the front
abbrev pub over : List ℕ → List ℕ → List ℕ
over ws words = ws ++ drop (length ws) words

-- what is told of a graph that was read as n bytes
abbrev pub opened_counts : Graph → ℕ → Opened
opened_counts g n = record {
  read = n;
  packages = length g;
  dependencies = dependency_count g;
  features = feature_count g;
  rows = length (rows g);
}

-- what comes after the first reading, and after the second; a fault is the answer
abbrev pub after_first : {A : Type 0} →
    Result (Graph × ℕ) FileFault → (Graph → ℕ → Result A FileFault) → Result A FileFault
after_first (Ok p) k = k p.0 p.1
after_first (Err e) k = Err e

abbrev pub after_second : {A : Type 0} →
    Result (Unit {0}) InRecord → Result A FileFault → Result A FileFault
after_second (Ok u) r = r
after_second (Err e) r = Err (Record e)

-- a graph that was read as n bytes: the limit of rows, then the room
abbrev pub rows_answer : Graph → ℕ → List ℕ → Result Opened FileFault
rows_answer g n words =
    if nat_lt max_rule_rows (length (rows g)) then Err Rows
    else (if nat_lt (length words) (row_start (length (rows g))) then Err Memory
    else Ok (opened_counts g n))

-- both readings, then the rows
abbrev pub open_answer : List ℕ → List ℕ → Result Opened FileFault
open_answer file words =
    after_first (first_reading file) (λ g n.
    after_second (second_reading g) (rows_answer g n words))

-- what the words hold afterwards: the words of the graph in front; a refusal leaves all as it was
abbrev pub words_after : Result Opened FileFault → Graph → List ℕ → List ℕ
words_after (Ok o) g words = over (graph_words g) words
words_after (Err e) g words = words

abbrev pub open_leaves : List ℕ → List ℕ → List ℕ
open_leaves file words = words_after (open_answer file words) (graph_of file) words
