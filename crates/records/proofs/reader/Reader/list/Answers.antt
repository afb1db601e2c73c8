use Rattle.std.proofs.Common.{sym}
use Rattle.records.specs.Fields.{view}
use Rattle.records.proofs.Counts.{full}
use Rattle.records.proofs.reader.Reader.list.Goals as goal

pub returns-clause-full : goal.returns-clause-full
returns-clause-full g c = full g.T.FromPiece.reading c.in_ok-count.count (view c.byte.new.self) (view c.each.new.self) (sym c.in_ok-each.ensures)
