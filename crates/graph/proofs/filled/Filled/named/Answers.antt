use Rattle.std.proofs.Common.{◌-◌, length, Some, sym, ap, ◌∙◌}
use Rattle.graph.specs.Depending.{depending}
use Rattle.graph.specs.Buckets.{past}
use Rattle.graph.specs.RowLists.{its}
use Rattle.graph.specs.Namesakes.{among_from}
use Rattle.graph.proofs.FilledTells.{names-left, none-low, none-high}
use Rattle.graph.proofs.Links.{found}
use Rattle.graph.proofs.filled.Filled.named.Goals as goal

pub find_within-requires-clause-none : goal.find_within-requires-clause-none
find_within-requires-clause-none c = λ k l. none-low c.args.self.now c.args.owner c.args.name.now c.entries_of-low.result.0 k c.entries_of-low.ensures.low l

pub find_within-requires-clause-all : goal.find_within-requires-clause-all
find_within-requires-clause-all c = none-high c.args.self.now c.args.owner c.args.name.now c.entries_of-low.result.1 c.entries_of-low.ensures.high

pub invariant_of-result : goal.invariant_of-result
invariant_of-result c =
    let s = c.args.self.now.directory.now.named.lists in
    record {
      keyed = λ k is. found s.entries c.args.owner c.args.name.now s.count (Some k) (sym is ∙ c.find_within.ensures);
      above = λ k l. none-low c.args.self.now c.args.owner c.args.name.now c.entries_of-low.result.0 k c.entries_of-low.ensures.low l;
    }

pub returns : goal.returns
returns c = ap (λ o. among_from (its c.args.self.now) c.args.owner c.args.name.now (length (depending 0 (its c.args.self.now)) - past o)) c.find_within.ensures ∙ names-left c.args.self.now c.args.owner c.args.name.now
