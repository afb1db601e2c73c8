use Rattle.std.proofs.Common.{replicate, ◌∙◌, arith}
use Rattle.graph.proofs.Worked.{opens, examples}
use Rattle.graph.proofs.examples.open_example.Goals as goal

pub returns : goal.returns
returns c = record { opened = c.open_graph.ensures.answer ∙ opens (replicate 54 0) (omega arith); table = examples }
