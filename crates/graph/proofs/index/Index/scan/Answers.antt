use Rattle.std.proofs.Common.{◌∙◌, arith}
use Rattle.graph.proofs.Links.{skips-to}
use Rattle.graph.proofs.index.Index.scan.Goals as goal

pub returns : goal.returns
returns c = skips-to c.args.self.now.lists.entries c.args.key.owner c.args.key.name.now 0 c.loop-at.at (omega arith) (λ k a b. c.requires.none k (omega (arith, c.loop-at-test.false))) ∙ c.loop-at.invariant.1
