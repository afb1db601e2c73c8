use Rattle.std.proofs.Common.{◌≡◌, ◌+◌, ◌-◌}
use Rattle.session.specs.Held.{state, Keeps}
use Rattle.session.proofs.Runs.{Leads}
use Rattle.session.proofs.session.Session.settle.Given as goal

-- the steps so far led here
abbrev pub invariant-loop-item : goal.invariant-loop-item
invariant-loop-item g l =
    Leads (g.B.Rulebook.table l.book) l.budget (state l.initial.self) l.steps (state l.self)
    × (l.self.items ≡ (g.B.Rulebook.table l.book).items)
    × Keeps l.initial.self l.self

abbrev pub decreases-loop-item : goal.decreases-loop-item
decreases-loop-item g l = (l.budget - l.steps) + (l.self.items - l.self.position)
