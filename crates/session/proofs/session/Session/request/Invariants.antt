use Rattle.std.proofs.Common.{◌≡◌, true, drop}
use Rattle.session.specs.Held.{state, Keeps}
use Rattle.session.specs.States.{request_all, all_below}
use Rattle.session.proofs.session.Session.request.Given as goal

-- the items that are left make the rest of the trail
abbrev pub invariant-loop-item : goal.invariant-loop-item
invariant-loop-item l =
    (request_all (state l.self) (drop l.item-index l.list) ≡ request_all (state l.initial.self) l.list)
    × (all_below l.self.items (drop l.item-index l.list) ≡ true)
    × Keeps l.initial.self l.self
