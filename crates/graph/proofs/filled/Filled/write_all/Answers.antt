use Rattle.std.proofs.Common.{rules, min, length, refl, ap, ◌∙◌}
use Rattle.graph.specs.RowLists.{its}
use Rattle.graph.specs.Words.{rows}
use Rattle.graph.specs.RowWriters.{write_rows}
use Rattle.graph.proofs.RowsLaid.{rows-laid}
use Rattle.graph.proofs.SheetRows.{lays-name}
use Rattle.graph.proofs.SheetsLaid.{count-laid, words-laid}
use Rattle.graph.proofs.filled.Filled.write_all.Goals as goal

pub returns-clause-count : goal.returns-clause-count
returns-clause-count c = ap (λ s. s.count) c.write_package_rows.ensures ∙ count-laid _ _ refl ∙ ap (λ rs. min (length rs) 262145) (rows-laid (its c.args.self.now))

pub returns-clause-words : goal.returns-clause-words
returns-clause-words c = λ few room.
    let g = its c.args.self.now in
    let e = c.write_package_rows.ensures ∙ ap (write_rows _) (rows-laid g) in
    let n = ap (λ s. s.words.ghost_name) e ∙ lays-name _ (rows g) in
    search (rules, n) ∙ ap (λ s. s.words.now) e ∙ words-laid _ (rows g) refl few room
