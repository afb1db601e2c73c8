use Rattle.std.proofs.Common.{refl}
use Rattle.graph.proofs.Links.{linked-none, nones}
use Rattle.graph.proofs.index.Index.new.Goals as goal

pub invariant_of-result-clause-linked : goal.invariant_of-result-clause-linked
invariant_of-result-clause-linked c = linked-none 16384 _ _ refl (nones 32749)
