use Rattle.std.proofs.Common.{◌≤◌, length, ◌∙◌, arith}
use Rattle.graph.proofs.Links.{found, finds-has}
use Rattle.graph.proofs.index.Index.has.Goals as goal

pub returns : goal.returns
returns c =
    let s = c.args.self.now in
    let room : s.lists.count ≤ length s.lists.entries = omega (arith, c.args.self.now.few, c.args.self.now.linked.full) in
    c.is_some.ensures ∙ finds-has s.lists.entries s.lists.count c.args.key.owner c.args.key.name.now c.find.result room (found s.lists.entries c.args.key.owner c.args.key.name.now s.lists.count c.find.result c.find.ensures)
