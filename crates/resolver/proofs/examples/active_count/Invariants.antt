use Rattle.std.proofs.Common.{◌≡◌, ◌≤◌}
use Rattle.session.specs.Held.{trail_of}
use Rattle.resolver.specs.WorkedExamples.{active_count}
use Rattle.resolver.proofs.examples.active_count.Given as goal

abbrev pub invariant-loop-item : goal.invariant-loop-item
invariant-loop-item l = (l.count ≤ l.item) × (l.count ≡ active_count (trail_of l.session) l.item)
