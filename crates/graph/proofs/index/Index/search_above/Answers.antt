use Rattle.std.proofs.Common.{sym, ap, ◌∙◌, arith}
use Rattle.graph.specs.Buckets.{past}
use Rattle.graph.proofs.Links.{search-goes, search-nears, skips-to}
use Rattle.graph.proofs.index.Index.search_above.Goals as goal

pub loop-at-preserved : goal.loop-at-preserved
loop-at-preserved c =
    let s = c.args.self.now in
    search-goes s.lists.entries s.lists.heads s.lists.count s.linked c.args.key.owner c.args.key.name.now c.loop-at.at c.in-Some.k c.in-Some.is c.loop-at.invariant.0 _ c.loop-at.invariant.1 (sym c.is_at.ensures ∙ c.if-is_at.false)

pub loop-at-smaller : goal.loop-at-smaller
loop-at-smaller c =
    let s = c.args.self.now in
    search-nears s.lists.entries s.lists.heads s.lists.count s.linked c.args.key.owner c.args.key.name.now c.loop-at.at c.in-Some.k c.in-Some.is c.loop-at.invariant.0

-- none below here has the key
pub returns-then-from-low : goal.returns-then-from-low
returns-then-from-low c =
    let s = c.args.self.now.lists in
    skips-to s.entries c.args.key.owner c.args.key.name.now 0 (past c.loop-at.at) (omega arith) (λ k a b. c.requires.none k (omega (arith, ap past c.in-Some.is, c.from.ensures, c.if-from-low.true))) ∙ c.loop-at.invariant.1
