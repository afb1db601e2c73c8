use Rattle.std.proofs.Common.{◌≡◌, ◌++◌, take, drop}
use Rattle.boundary.specs.Calls.{items_of}
use Rattle.boundary.proofs.settling.write_items.Given as goal

-- the records so far are written, and the words after them are as they were
abbrev pub invariant-loop-place : goal.invariant-loop-place
invariant-loop-place l = l.active ≡ items_of (take l.place l.trail) ++ drop l.place l.initial.active
