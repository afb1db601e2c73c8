use Rattle.std.proofs.Common.{◌≡◌}
use Rattle.std.specs.List.{flat_map}
use Rattle.records.specs.Bodies.{forms}
use Rattle.graph.specs.RowLists.{its, value_rows}
use Rattle.graph.specs.RowWriters.{write_rows}
use Rattle.graph.proofs.filled.Filled.values_rows.Given as goal

-- what is left to lay gives the sheet
abbrev pub invariant-loop-text : goal.invariant-loop-text
invariant-loop-text l =
    write_rows l.writer (flat_map (value_rows (its l.self) l.p l.from) (forms l.text-iterator))
    ≡ write_rows l.initial.writer (flat_map (value_rows (its l.self) l.p l.from) (forms l.values))
