use Rattle.std.proofs.Common.{◌≡◌}
use Rattle.graph.specs.RowLists.{its}
use Rattle.graph.specs.Namesakes.{left}
use Rattle.graph.specs.Places.{dependencies_of}
use Rattle.graph.specs.Second.{ends_have}
use Rattle.graph.proofs.NamesakesLaid.{all_have}
use Rattle.graph.proofs.filled.Filled.ends_have.Given as goal

-- the dependencies that are left decide
abbrev pub invariant-loop-d : goal.invariant-loop-d
invariant-loop-d l = all_have (its l.self) l.feature (left l.d-iterator) ≡ ends_have (its l.self) (dependencies_of (its l.self) l.p) l.name l.feature
