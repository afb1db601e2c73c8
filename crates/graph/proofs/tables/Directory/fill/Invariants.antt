use Rattle.std.proofs.Common.{◌≡◌, ◌-◌, length}
use Rattle.graph.specs.Filling.{tables_of, Midway}
use Rattle.graph.proofs.tables.Directory.fill.Given as goal

-- what the tables tell and what lies ahead make the whole
abbrev pub invariant-loop-frame : goal.invariant-loop-frame
invariant-loop-frame l =
    (l.self.index ≡ l.initial.self.index)
    × (l.self.named ≡ l.initial.self.named)
    × (l.self.counts ≡ l.initial.self.counts)
    × Midway l.file (tables_of l.self) l.so_far.read l.so_far.packages l.so_far.dependencies l.so_far.features

abbrev pub decreases-loop-frame : goal.decreases-loop-frame
decreases-loop-frame l = length l.file - l.so_far.read
