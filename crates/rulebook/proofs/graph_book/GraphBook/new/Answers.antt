use Rattle.std.proofs.Common.{◌≡◌, ℕ, List, subst, sym}
use Rattle.policy.specs.Answers.{Answers, answers_of}
use Rattle.rulebook.specs.Tables.{Table}
use Rattle.rulebook.specs.GraphRules.{TableOf}
use Rattle.rulebook.specs.GraphTable.{graph_table}
use Rattle.rulebook.proofs.GraphTables.{opened-table}
use Rattle.rulebook.proofs.graph_book.GraphBook.new.Goals as goal

pub returns-clause-rules : goal.returns-clause-rules
returns-clause-rules g c file before graph opens e =
    let answers : Answers = g.P.Policy.answers c.args.policy.now in
    let ws : List ℕ = c.args.words.now in
    let same : graph_table (answers_of c.of-2.result) c.of.result.words.now ≡ graph_table answers ws = λ i. graph_table (λ lane side. c.of-2.ensures lane side i) (c.of.ensures i) in
    subst (λ (t : Table). TableOf answers graph t) (sym same) (opened-table file before graph opens answers ws e)
