use Rattle.std.proofs.Common.{sym, ◌∙◌}
use Rattle.graph.proofs.Links.{search-goes, search-nears}
use Rattle.graph.proofs.index.Index.search.Goals as goal

pub loop-at-preserved : goal.loop-at-preserved
loop-at-preserved c =
    let s = c.args.self.now in
    search-goes s.lists.entries s.lists.heads s.lists.count s.linked c.args.key.owner c.args.key.name.now c.loop-at.at c.in-Some.k c.in-Some.is c.loop-at.invariant.0 _ c.loop-at.invariant.1 (sym c.is_at.ensures ∙ c.if-is_at.false)

pub loop-at-smaller : goal.loop-at-smaller
loop-at-smaller c =
    let s = c.args.self.now in
    search-nears s.lists.entries s.lists.heads s.lists.count s.linked c.args.key.owner c.args.key.name.now c.loop-at.at c.in-Some.k c.in-Some.is c.loop-at.invariant.0
