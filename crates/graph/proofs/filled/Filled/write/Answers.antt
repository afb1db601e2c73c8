use Rattle.std.proofs.Common.{◌+◌, ◌*◌, ◌≤◌, length, set, ◌∙◌, subst}
use Rattle.graph.specs.RowLists.{its}
use Rattle.graph.specs.Limits.{max_rule_rows}
use Rattle.graph.proofs.FilledTells.{packages-told, dependencies-told, features-told}
use Rattle.graph.proofs.Opens.{words-written}
use Rattle.graph.proofs.filled.Filled.write.Goals as goal

pub returns : goal.returns
returns c =
    let x = c.args.self.now in
    let all = c.requires.all in
    let room = subst (λ m. 4 + 5 * m ≤ length c.args.words.now) all.0 c.requires.room in
    (λ i. set (set (set (set c.write_all.new.words 0 (packages-told x i)) 1 (dependencies-told x i)) 2 (features-told x i)) 3 (all.0 i))
    ∙ words-written (its x) c.args.words.now c.write_all.new.words room (c.write_all.ensures.words (subst (λ m. m ≤ max_rule_rows) all.0 all.1) room)
