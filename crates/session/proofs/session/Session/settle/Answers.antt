use Rattle.std.proofs.Common.{◌+◌, ◌<◌, Ok, sym, ap, ◌∙◌, subst, arith, IfSome}
use Rattle.std.proofs.lemmas.Bool.{cond-true, eq-eqb}
use Rattle.session.specs.Held.{trail_of, state}
use Rattle.session.specs.States.{outcome_of}
use Rattle.session.proofs.Keeping.{kept-on}
use Rattle.session.proofs.Runs.{Leads, worked-within, lead-rest, lead-move, lead-take}
use Rattle.session.proofs.Seeks.{seek-some}
use Rattle.session.proofs.TrailEnds.{at-most}
use Rattle.session.proofs.session.Session.settle.Goals as goal

pub loop-item-smaller-in-None : goal.loop-item-smaller-in-None
loop-item-smaller-in-None g c =
    let s = c.loop-item.self in
    let at = worked-within (state s) c.in-Some.item (sym c.in-Some.ensures) in
    let few = at-most s.items (trail_of s) s.below s.apart in
    omega (arith, at, few, ap (λ u. u.position) c.move_on.ensures.state, ap (λ u. u.items) c.move_on.ensures.state)

pub loop-item-preserved-in-None : goal.loop-item-preserved-in-None
loop-item-preserved-in-None g c =
    let t = g.B.Rulebook.table c.args.book.now in
    let l = c.loop-item in
    let m = c.move_on.ensures in (
      subst (Leads t c.args.budget (state c.args.self.now) l.steps) (sym m.state) (lead-move t c.args.budget (state c.args.self.now) l.steps (state l.self) l.invariant.0 c.in-Some.item (sym c.in-Some.ensures) (sym c.in-None.ensures)),
      m.keeps.items ∙ l.invariant.1,
      kept-on _ _ _ l.invariant.2 m.keeps,
    )

pub take_entry-requires-clause-below : goal.take_entry-requires-clause-below
take_entry-requires-clause-below g c =
    let t = g.B.Rulebook.table c.args.book.now in
    let l = c.loop-item in
    let f = c.in-Some-seek.field-0 in
    let first = seek-some t c.in-Some.item l.self.row f (sym c.in-Some-seek.ensures) in
    subst (λ n. (f.entry.conclusion < n) × IfSome f.entry.partner (λ b. b < n)) (sym l.invariant.1) ((g.met.B.Rulebook.lawful c.args.book.now).below c.in-Some.item f.row f.entry first.here)

pub take_entry-requires-clause-row : goal.take_entry-requires-clause-row
take_entry-requires-clause-row g c =
    let t = g.B.Rulebook.table c.args.book.now in
    let first = seek-some t c.in-Some.item c.loop-item.self.row c.in-Some-seek.field-0 (sym c.in-Some-seek.ensures) in
    omega (arith, first.under, (g.met.B.Rulebook.lawful c.args.book.now).few_rows)

pub loop-item-preserved : goal.loop-item-preserved
loop-item-preserved g c =
    let t = g.B.Rulebook.table c.args.book.now in
    let l = c.loop-item in
    let m = c.take_entry.ensures in
    let less : l.steps < c.args.budget = omega (arith, l.invariant.0.0, c.if-steps-budget.false) in (
      subst (Leads t c.args.budget (state c.args.self.now) (l.steps + 1)) (sym m.state) (lead-take t c.args.budget (state c.args.self.now) l.steps (state l.self) l.invariant.0 c.in-Some.item (sym c.in-Some.ensures) c.in-Some-seek.field-0 (sym c.in-Some-seek.ensures) less),
      m.keeps.items ∙ l.invariant.1,
      kept-on _ _ _ l.invariant.2 m.keeps,
    )

pub returns-clause-answer : goal.returns-clause-answer
returns-clause-answer g c =
    let t = g.B.Rulebook.table c.args.book.now in
    let s = state c.args.self.now in
    let l = c.loop-item in
    let fits = sym c.items.ensures ∙ c.if-items-self.false in
    ap (λ r. Ok (outcome_of r)) (sym (lead-rest t c.args.budget s l.steps (state l.self) l.invariant.0 (sym c.in_default.ensures)))
    ∙ sym (cond-true _ _ _ (eq-eqb t.items s.items fits))
