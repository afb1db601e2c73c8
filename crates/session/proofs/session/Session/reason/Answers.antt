use Rattle.std.proofs.Common.{◌<◌, Ok, sym, ap, ◌∙◌, arith}
use Rattle.std.proofs.lemmas.Bool.{cond-true, lt-ltb}
use Rattle.std.proofs.lemmas.List.{get_or-take, length-take-le}
use Rattle.session.specs.Held.{trail_of}
use Rattle.session.specs.States.{reason_at}
use Rattle.session.specs.Trails.{no_record}
use Rattle.session.proofs.Finding.{found-within}
use Rattle.session.proofs.session.Session.reason.Goals as goal
use Rattle.session.proofs.session.Session.reason.Goals.{In-Some}

-- the record is one of the trail
within : (c : In-Some) → c.in-Some.at < c.args.self.now.trail.len
within c =
    let s = c.args.self.now in
    omega (arith, found-within (trail_of s) c.args.item c.in-Some.at (sym c.in-Some.ensures), length-take-le s.trail.len s.trail.places.now s.held)

pub bounds-self-at : goal.bounds-self-at
bounds-self-at c = omega (arith, within (goal.at.bounds-self-at c).In-Some, c.args.self.now.held)

pub bounds-self-at-in-Some : goal.bounds-self-at-in-Some
bounds-self-at-in-Some c = omega (arith, within (goal.at.bounds-self-at-in-Some c).In-Some, c.args.self.now.held)

pub returns-in-Some : goal.returns-in-Some
returns-in-Some c =
    let s = c.args.self.now in
    let k = c.in-Some.at in
    let l = within (goal.at.returns-in-Some c).In-Some in
    let same = get_or-take s.trail.len s.trail.places.now k no_record l in
    (λ i. Ok (record { first = (sym same i).first; second = (sym same i).second }))
    ∙ ap (reason_at (trail_of s)) c.in-Some.ensures
    ∙ sym (cond-true _ _ _ (lt-ltb c.args.item s.items c.if-item-self.false))
