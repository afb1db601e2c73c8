use Rattle.std.proofs.Common.{map, sym, ap}
use Rattle.records.specs.Bodies.{form_in, forms}
use Rattle.graph.specs.RowLists.{its, value_rows}
use Rattle.graph.proofs.SheetRows.{joined-more}
use Rattle.graph.proofs.filled.Filled.values_rows.Goals as goal

pub loop-text-preserved : goal.loop-text-preserved
loop-text-preserved c = joined-more (value_rows (its c.args.self.now) c.args.p c.args.from) (form_in c.in-Some.text.now) (forms c.next.new.self) (forms c.loop-text.text-iterator) c.loop-text.writer c.value_rows.new.writer _ (ap (map form_in) (sym c.in-Some.ensures.steps.0)) c.loop-text.invariant c.value_rows.ensures
