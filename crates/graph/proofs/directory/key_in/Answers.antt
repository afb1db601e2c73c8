use Rattle.std.proofs.Common.{sym, ap, ◌∙◌}
use Rattle.std.proofs.lemmas.Bool.{cond-true, eq-eqb}
use Rattle.graph.specs.Buckets.{key_view}
use Rattle.graph.specs.Rules.{when_some}
use Rattle.graph.proofs.directory.key_in.Goals as goal

pub returns-in_err-name : goal.returns-in_err-name
returns-in_err-name c = ap (λ o. when_some o key_view) c.from_residual.ensures ∙ c.in_err-name.ensures c.args.owner ∙ sym (cond-true _ _ _ (eq-eqb _ _ c.if-frame-eq-DEPENDENCY.true))

pub returns-in_ok-name : goal.returns-in_ok-name
returns-in_ok-name c = c.in_ok-name.ensures c.args.owner ∙ sym (cond-true _ _ _ (eq-eqb _ _ c.if-frame-eq-DEPENDENCY.true))
