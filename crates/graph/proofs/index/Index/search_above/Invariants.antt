use Rattle.std.proofs.Common.{◌≡◌}
use Rattle.graph.specs.Buckets.{past, newest_of, InBucket}
use Rattle.graph.proofs.index.Index.search_above.Given as goal

-- what is found from here on is the answer
abbrev pub invariant-loop-at : goal.invariant-loop-at
invariant-loop-at l =
    InBucket l.self.lists.entries l.self.lists.count l.key.owner l.key.name.now l.at
    × (newest_of l.self.lists.entries l.key.owner l.key.name.now (past l.at) ≡ newest_of l.self.lists.entries l.key.owner l.key.name.now (past l.initial.at))

abbrev pub decreases-loop-at : goal.decreases-loop-at
decreases-loop-at l = past l.at
