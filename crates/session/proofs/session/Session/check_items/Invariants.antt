use Rattle.std.proofs.Common.{◌≡◌, drop}
use Rattle.session.specs.Held.{state}
use Rattle.session.specs.States.{request_answer}
use Rattle.session.proofs.session.Session.check_items.Given as goal

-- the items that are left decide
abbrev pub invariant-loop-item : goal.invariant-loop-item
invariant-loop-item l = request_answer (state l.self) (drop l.item-index l.list) ≡ request_answer (state l.self) l.list
