use Rattle.std.proofs.Common.{arith}
use Rattle.std.proofs.lemmas.Grind.{common_steps}
use Rattle.text.proofs.NameRuns.{name-law}
use Rattle.text.proofs.names.read_name.Goals as goal

pub returns-then-not-fits_name-clause-law : goal.returns-then-not-fits_name-clause-law
returns-then-not-fits_name-clause-law c = name-law c.args.text.now _ (grind (arith, common_steps))

pub returns-then-is_empty-clause-law : goal.returns-then-is_empty-clause-law
returns-then-is_empty-clause-law c = name-law c.args.text.now _ (grind (arith, common_steps))

pub returns-clause-law : goal.returns-clause-law
returns-clause-law c = name-law c.args.text.now _ (grind (arith, common_steps))
