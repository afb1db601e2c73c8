use Rattle.std.proofs.Common.{◌<◌, length, refl, ap, arith}
use Rattle.session.specs.Held.{state}
use Rattle.session.specs.States.{with_trail}
use Rattle.session.proofs.Joined.{joined-room, joined-trail, joined-places, joined-beyond, joined-below, joined-apart, joined-first, joined-second, joined-marks, joined-marked, joined-others}
use Rattle.session.proofs.session.Session.join.Goals as goal
use Rattle.session.proofs.session.Session.join.Goals.{Start, After-push}

-- there is room for one more
room : (c : Start) → c.args.self.now.trail.len < c.args.self.now.items
room c =
    let s = c.args.self.now in
    joined-room s.items s.trail.places.now s.trail.len s.held c.args.added c.requires.below c.requires.inactive s.below s.apart

pub push-requires-clause-few : goal.push-requires-clause-few
push-requires-clause-few c = omega (arith, room (goal.at.push-requires-clause-few c).Start, c.args.self.now.few)

pub push-requires-clause-position : goal.push-requires-clause-position
push-requires-clause-position c = omega (arith, room (goal.at.push-requires-clause-position c).Start, c.args.self.now.places)

pub invariant_of-self : goal.invariant_of-self
invariant_of-self c =
    let s = c.args.self.now in
    let x = c.args.added in
    let e = c.push.ensures in
    let u = c.push.new.self in
    let r = room (goal.at.invariant_of-self c).Start in
    let fits : s.trail.len < length s.trail.places.now = omega (arith, r, s.places) in
    let low = c.requires.below in
    let off = c.requires.inactive in
    let places = joined-places s.items s.trail.places.now s.trail.len s.held x low off fits u.places.now e.places u.len e.len in
    let marks = joined-marks s.items s.trail.places.now s.trail.len s.held x low off fits u.places.now e.places u.len e.len s.trail.marks.now u.marks.now e.marks in
    record {
      few = s.few;
      places = omega (arith, s.places, places);
      marks = omega (arith, s.marks, marks);
      held = omega (arith, fits, places, e.len);
      inside = omega (arith, s.inside, e.len);
      below = joined-below s.items s.trail.places.now s.trail.len s.held x low off fits u.places.now e.places u.len e.len s.below;
      apart = joined-apart s.items s.trail.places.now s.trail.len s.held x low off fits u.places.now e.places u.len e.len s.apart;
      marked = joined-marked s.items s.trail.places.now s.trail.len s.held x low off fits u.places.now e.places u.len e.len s.trail.marks.now u.marks.now e.marks s.marks s.marked;
      first_older = joined-first s.items s.trail.places.now s.trail.len s.held x low off fits u.places.now e.places u.len e.len c.requires.older.0 s.first_older;
      second_older = joined-second s.items s.trail.places.now s.trail.len s.held x low off fits u.places.now e.places u.len e.len c.requires.older.1 s.second_older;
    }

pub returns-clause-state : goal.returns-clause-state
returns-clause-state c =
    let s = c.args.self.now in
    let e = c.push.ensures in
    let u = c.push.new.self in
    let fits : s.trail.len < length s.trail.places.now = omega (arith, room (goal.at.returns-clause-state c).Start, s.places) in
    ap (with_trail (state s)) (joined-trail s.items s.trail.places.now s.trail.len s.held c.args.added c.requires.below c.requires.inactive fits u.places.now e.places u.len e.len)

pub returns-clause-keeps : goal.returns-clause-keeps
returns-clause-keeps c =
    let s = c.args.self.now in
    let x = c.args.added in
    let e = c.push.ensures in
    let u = c.push.new.self in
    let fits : s.trail.len < length s.trail.places.now = omega (arith, room (goal.at.returns-clause-keeps c).Start, s.places) in
    record {
      items = refl;
      longer = omega (arith, e.len);
      same = e.same;
      places = joined-beyond s.items s.trail.places.now s.trail.len s.held x c.requires.below c.requires.inactive fits u.places.now e.places u.len e.len;
      marks = joined-others s.items s.trail.places.now s.trail.len s.held x c.requires.below c.requires.inactive fits u.places.now e.places u.len e.len s.trail.marks.now u.marks.now e.marks;
    }
