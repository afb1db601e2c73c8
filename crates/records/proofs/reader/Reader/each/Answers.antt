use Rattle.std.proofs.lemmas.Result.{err_from_is_err_and}
use Rattle.records.specs.Fields.{view, text_field}
use Rattle.records.proofs.Manys.{many-goes, many-stops}
use Rattle.records.proofs.reader.Reader.each.Goals as goal

-- what `?` hands on is the error of the call, which the library's lemma says in two halves
pub returns-in_err-text : goal.returns-in_err-text
returns-in_err-text g c =
    let p = err_from_is_err_and c.from_residual.result c.from_residual.ensures.1 in
    rw (p.1, p.2) (many-stops (text_field g.T.FromPiece.reading) c.args.count c.loop-i._i (view c.loop-i.self) (view c.args.self.now) c.loop-i-test.true c.loop-i.invariant _ c.in_err-text.ensures)

pub loop-i-preserved : goal.loop-i-preserved
loop-i-preserved g c =
    many-goes (text_field g.T.FromPiece.reading) c.args.count c.loop-i._i (view c.loop-i.self) (view c.args.self.now) c.loop-i-test.true c.loop-i.invariant _ (view c.text.new.self) c.in_ok-text.ensures
