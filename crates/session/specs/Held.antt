-- The state of a session in its memory.
use Rattle.std.specs.Prelude.{◌≡◌, ◌≤◌, List, drop, take}
use Rattle.session.specs.declared.session.Session.{Session}
use Rattle.session.specs.declared.trail.Trail.{Trail}
use Rattle.session.specs.declared.trail.TrailRecord.{TrailRecord}
use Rattle.session.specs.States.{State}

abbrev pub trail_of : Session → List TrailRecord
trail_of s = take s.trail.len s.trail.places.now

abbrev pub state : Session → State
state s = record { items = s.items; trail = trail_of s; position = s.position; row = s.row }

-- a trail and what a call leaves of it are in the same memory
abbrev pub SameMemory : Trail → Trail → Type 0
SameMemory t u = (u.places.ghost_name ≡ t.places.ghost_name) × (u.marks.ghost_name ≡ t.marks.ghost_name)

-- a call on session s leaves session u: the item count and the memory are the same, the trail is no shorter, and the places
-- beyond the new trail and the marks from the item count on are as they were
pub record Keeps (s u : Session) : Type 0 where
  pub items : u.items ≡ s.items
  pub longer : s.trail.len ≤ u.trail.len
  pub same : SameMemory s.trail u.trail
  pub places : drop u.trail.len u.trail.places.now ≡ drop u.trail.len s.trail.places.now
  pub marks : drop u.items u.trail.marks.now ≡ drop u.items s.trail.marks.now
