use Rattle.std.proofs.Common.{◌<◌, None, length, get_or, refl, rules}
use Rattle.graph.specs.declared.index.IndexEntry.{IndexEntry}
use Rattle.graph.proofs.Links.{linked-more}
use Rattle.graph.proofs.index.Lists.add.Goals as goal

pub returns-clause-linked : goal.returns-clause-linked
returns-clause-linked c =
    let s = c.args.self.now in
    let h = c.bucket-h.result in
    let e : IndexEntry = record { name = c.args.key.name; owner = c.args.key.owner; next = get_or s.heads h None } in
    let room : s.count < length s.entries = search rules in
    let among : h < length s.heads = search rules in
    linked-more s.entries s.heads s.count c.requires.linked e h room among c.bucket-h.ensures.value refl
