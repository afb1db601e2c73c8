use Rattle.std.proofs.Common.{◌≡◌, ◌≤◌}
use Rattle.graph.specs.Buckets.{newest_of}
use Rattle.graph.proofs.index.Index.scan.Given as goal

-- what is found below here is the answer
abbrev pub invariant-loop-at : goal.invariant-loop-at
invariant-loop-at l =
    (l.at ≤ l.high)
    × (newest_of l.self.lists.entries l.key.owner l.key.name.now l.at ≡ newest_of l.self.lists.entries l.key.owner l.key.name.now l.high)

abbrev pub decreases-loop-at : goal.decreases-loop-at
decreases-loop-at l = l.at
