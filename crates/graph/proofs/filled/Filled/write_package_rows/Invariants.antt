use Rattle.std.proofs.Common.{◌≡◌}
use Rattle.graph.specs.RowLists.{its, rows_below}
use Rattle.graph.specs.RowWriters.{write_rows}
use Rattle.graph.proofs.filled.Filled.write_package_rows.Given as goal

-- the packages before this one are laid
abbrev pub invariant-loop-p : goal.invariant-loop-p
invariant-loop-p l = l.writer ≡ write_rows l.initial.writer (rows_below (its l.self) l.p)
