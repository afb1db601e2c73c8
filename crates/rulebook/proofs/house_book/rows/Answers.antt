use Rattle.rulebook.proofs.HouseRows.{row_cut}
use Rattle.rulebook.proofs.house_book.rows.Goals as goal

pub returns-clause-each : goal.returns-clause-each
returns-clause-each c r h = row_cut c.min.result c.args.words.now c.as_chunks.result.0.now c.as_chunks.ensures.front c.as_chunks.ensures.front_len r h
