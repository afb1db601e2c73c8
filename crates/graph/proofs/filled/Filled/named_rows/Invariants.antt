use Rattle.std.proofs.Common.{◌≡◌, ◌++◌}
use Rattle.std.specs.List.{flat_map}
use Rattle.graph.specs.RowLists.{its, switches, feature_named, switch_rows, weak_rows, each_named}
use Rattle.graph.specs.Namesakes.{left}
use Rattle.graph.specs.RowWriters.{write_rows}
use Rattle.graph.proofs.filled.Filled.named_rows.Given as goal

-- what is left to lay gives the sheet
abbrev pub invariant-loop-d : goal.invariant-loop-d
invariant-loop-d l =
    write_rows l.writer (flat_map (λ y. switch_rows (its l.self) l.value.from (switches l.value.link) y.0 y.1 ++ weak_rows (its l.self) l.value.from (feature_named l.value.link) y.0 y.1) (left l.d-iterator))
    ≡ write_rows l.initial.writer (each_named (its l.self) l.p l.value.from l.value.name.now (switches l.value.link) (feature_named l.value.link))
