use Rattle.std.proofs.Common.{◌<◌, ◌≤◌, length, get_or, ap, ◌∙◌, arith}
use Rattle.graph.specs.Directory.{no_place}
use Rattle.graph.specs.RowLists.{its, declaration_rows}
use Rattle.graph.specs.RowWriters.{write_rows}
use Rattle.graph.proofs.SheetRows.{each_more, each_all}
use Rattle.graph.proofs.filled.Filled.rows_of_declarations.Goals as goal

pub loop-k-preserved : goal.loop-k-preserved
loop-k-preserved c = λ number declarations table.
    let g = its c.args.self.now in
    let p = c.args.p in
    let k = c.loop-k.k in
    let s = c.loop-k.writer in
    let l : k < length declarations = omega (arith, c.loop-k-test.true, table.count) in
    let declaration = get_or declarations k no_place.declaration in
    let e = c.rows_of_declaration.ensures declaration (table.records k l) ∙ ap (λ n. write_rows s (declaration_rows g p n declaration)) (table.number k) in
    each_more (λ i. declaration_rows g p (number i)) declarations no_place.declaration k s _ (c.loop-k.invariant number declarations table) c.rows_of_declaration.new.writer l e

pub returns : goal.returns
returns c = λ number declarations table.
    let l : length declarations ≤ c.loop-k.k = omega (arith, c.loop-k-test.false, table.count) in
    each_all (λ i. declaration_rows (its c.args.self.now) c.args.p (number i)) declarations no_place.declaration c.loop-k.k c.loop-k.writer _ (c.loop-k.invariant number declarations table) l
