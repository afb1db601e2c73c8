use Rattle.std.proofs.Common.{◌∙◌}
use Rattle.graph.proofs.Links.{head-newest}
use Rattle.graph.proofs.index.Index.find_within.Goals as goal

pub returns-else-is_far : goal.returns-else-is_far
returns-else-is_far c =
    let s = c.args.self.now in
    c.search_above.ensures ∙ head-newest s.lists.entries s.lists.heads s.lists.count s.linked c.args.key.owner c.args.key.name.now c.bucket.result c.bucket.ensures.value
