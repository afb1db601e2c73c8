use Rattle.std.proofs.Common.{ap, ◌∙◌}
use Rattle.std.specs.List.{flat_map}
use Rattle.graph.specs.RowLists.{its, switches, feature_named}
use Rattle.graph.specs.Namesakes.{left}
use Rattle.graph.specs.RowWriters.{write_rows}
use Rattle.graph.proofs.NamesakesLaid.{rows_for, rows-namesakes}
use Rattle.graph.proofs.filled.Filled.named_rows.Goals as goal

pub loop-d-init : goal.loop-d-init
loop-d-init c =
    let g = its c.args.self.now in
    let v = c.args.value in
    let rows = rows_for g c.args.p v.name.now v.from (switches v.link) (feature_named v.link) in
    ap (λ i. write_rows c.args.writer.now (flat_map rows (left i))) c.into_iter-d-iterator.ensures.into_iter_gives
    ∙ ap (λ ys. write_rows c.args.writer.now (flat_map rows ys)) c.named-d-items.ensures
    ∙ ap (write_rows c.args.writer.now) (rows-namesakes g c.args.p v.name.now v.from (switches v.link) (feature_named v.link))
