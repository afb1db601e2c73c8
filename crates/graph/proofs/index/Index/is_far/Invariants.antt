use Rattle.std.proofs.Common.{◌≡◌}
use Rattle.graph.specs.Buckets.{is_far, InBucket}
use Rattle.graph.proofs.index.Index.is_far.Given as goal

-- what is left of the list and of the number gives the answer
abbrev pub invariant-loop-at : goal.invariant-loop-at
invariant-loop-at l =
    InBucket l.self.lists.entries l.self.lists.count l.key.owner l.key.name.now l.at
    × (is_far l.self.lists.entries l.high l.at l.rest ≡ is_far l.self.lists.entries l.high l.initial.at l.initial.rest)

abbrev pub decreases-loop-at : goal.decreases-loop-at
decreases-loop-at l = l.rest
