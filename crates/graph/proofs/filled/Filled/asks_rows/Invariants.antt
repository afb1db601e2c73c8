use Rattle.std.proofs.Common.{◌≡◌}
use Rattle.std.specs.List.{flat_map}
use Rattle.records.specs.Bodies.{texts}
use Rattle.graph.specs.RowLists.{its, ask_rows}
use Rattle.graph.specs.RowWriters.{write_rows}
use Rattle.graph.proofs.filled.Filled.asks_rows.Given as goal

-- what is left to lay gives the sheet
abbrev pub invariant-loop-name : goal.invariant-loop-name
invariant-loop-name l =
    write_rows l.writer (flat_map (ask_rows (its l.self) l.from l.fn.lane l.end) (texts l.name-iterator))
    ≡ write_rows l.initial.writer (flat_map (ask_rows (its l.self) l.from l.fn.lane l.end) (texts l.asks))
