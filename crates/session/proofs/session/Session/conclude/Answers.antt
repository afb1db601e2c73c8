use Rattle.std.proofs.Common.{sym, subst}
use Rattle.session.proofs.Finding.{Older, cause-older}
use Rattle.session.proofs.session.Session.conclude.Goals as goal

pub join-requires-clause-older : goal.join-requires-clause-older
join-requires-clause-older c =
    let s = c.args.self.now in
    (c.requires.position, subst (Older s.trail.len) (sym c.cause_of-second.ensures) (cause-older s.trail.places.now s.trail.len s.held c.args.entry.partner))
