use Rattle.std.proofs.Common.{◌∙◌}
use Rattle.graph.specs.Buckets.{key_of, entry_at}
use Rattle.graph.proofs.Links.{key-bucket, next-newest}
use Rattle.graph.proofs.index.Index.older.Goals as goal

pub returns : goal.returns
returns c =
    let s = c.args.self.now in
    let k = c.args.k in
    let mine = key-bucket c.args.key.owner c.args.key.name.now (key_of (entry_at s.lists.entries k)) c.requires.entry.1 in
    c.search_above.ensures ∙ next-newest s.lists.entries s.lists.heads s.lists.count s.linked c.args.key.owner c.args.key.name.now k c.requires.entry.0 mine
