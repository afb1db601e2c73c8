use Rattle.std.proofs.Common.{◌≡◌, ℕ, List, drop}
use Rattle.records.specs.Graphs.{Declaration}
use Rattle.graph.specs.RowLists.{its, TableOf, declaration_rows}
use Rattle.graph.specs.Rules.{each}
use Rattle.graph.specs.RowWriters.{write_rows}
use Rattle.graph.proofs.filled.Filled.rows_of_declarations.Given as goal

-- what is left to lay gives the sheet
abbrev pub invariant-loop-k : goal.invariant-loop-k
invariant-loop-k l =
    (number : ℕ → ℕ) (declarations : List Declaration) → TableOf l.self l.table number declarations →
    write_rows l.writer (each (λ k. declaration_rows (its l.self) l.p (number k)) l.k (drop l.k declarations)) ≡ write_rows l.initial.writer (each (λ k. declaration_rows (its l.self) l.p (number k)) 0 declarations)
