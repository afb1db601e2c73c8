use Rattle.std.proofs.Common.{rules, ◌≡◌, Ok, ◌∙◌, arith}
use Rattle.graph.proofs.Worked.{examples}
use Rattle.graph.specs.Examples.{example_opened}
use Rattle.resolver.proofs.WorkedTable.{left-by-example}
use Rattle.resolver.proofs.examples.opens.Goals as goal

pub returns-clause-answer : goal.returns-clause-answer
returns-clause-answer c =
    let z : c.open_graph.result ≡ Ok example_opened = c.open_graph.ensures.answer ∙ examples.opens c.args.words.now (omega (arith, c.requires)) in
    search rules

pub returns-clause-words : goal.returns-clause-words
returns-clause-words c = c.open_graph.ensures.words ∙ left-by-example c.args.words.now c.requires
