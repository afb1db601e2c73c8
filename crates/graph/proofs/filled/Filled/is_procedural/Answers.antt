use Rattle.std.proofs.Common.{sym, ap, ◌∙◌, arith}
use Rattle.std.proofs.lemmas.Bool.{le-ltb}
use Rattle.graph.specs.RowLists.{its}
use Rattle.graph.proofs.Befores.{package-beyond}
use Rattle.graph.proofs.FilledTells.{packages-told, mark-told}
use Rattle.graph.proofs.filled.Filled.is_procedural.Goals as goal

pub returns-then-p-self : goal.returns-then-p-self
returns-then-p-self c =
    let x = c.args.self.now in
    mark-told x c.args.p (omega (arith, packages-told x, c.if-p-self.true))

pub returns-else-p-self : goal.returns-else-p-self
returns-else-p-self c =
    let x = c.args.self.now in
    le-ltb c.args.p x.directory.now.counts.packages c.if-p-self.false ∙ sym (ap (λ a. a.proc) (package-beyond (its x) c.args.p (omega (arith, packages-told x, c.if-p-self.false))))
