use Rattle.resolver.proofs.WorkedTable.{worked-examples}
use Rattle.resolver.proofs.examples.worked_examples.Goals as goal

pub returns-then-answers_calls-clause-table : goal.returns-then-answers_calls-clause-table
returns-then-answers_calls-clause-table c = worked-examples

pub returns-else-answers_calls-clause-table : goal.returns-else-answers_calls-clause-table
returns-else-answers_calls-clause-table c = worked-examples
