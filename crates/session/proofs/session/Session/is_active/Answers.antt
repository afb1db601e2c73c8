use Rattle.std.proofs.Common.{is_some, ap, ◌∙◌}
use Rattle.session.specs.Held.{trail_of}
use Rattle.session.proofs.Finding.{found-active}
use Rattle.session.proofs.session.Session.is_active.Goals as goal

pub returns : goal.returns
returns c = c.is_some.ensures ∙ ap is_some c.find.ensures ∙ found-active (trail_of c.args.self.now) c.args.item
