use Rattle.std.proofs.Common.{get_or, set, ap, ◌∙◌}
use Rattle.session.specs.Trails.{no_record}
use Rattle.boundary.proofs.Writing.{written-more}
use Rattle.boundary.proofs.settling.write_items.Goals as goal

pub loop-place-preserved : goal.loop-place-preserved
loop-place-preserved c =
    ap (λ l. set l c.loop-place.place (get_or c.args.trail.now c.loop-place.place no_record).item) c.loop-place.invariant
    ∙ written-more (λ r. r.item) no_record c.args.trail.now c.args.active.now c.loop-place.place c.loop-place-test.true c.requires
