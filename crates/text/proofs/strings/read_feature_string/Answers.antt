use Rattle.std.proofs.Common.{◌≡◌, get_or, Err, ◌∙◌, arith, rules}
use Rattle.std.proofs.lemmas.Grind.{common_steps}
use Rattle.text.specs.declared.faults.StringFault.TheVariants.{NoForm}
use Rattle.text.specs.Views.{map_ok, form}
use Rattle.text.proofs.FormRuns.{room-more}
use Rattle.text.proofs.FormLaws.{form-law}
use Rattle.text.proofs.strings.read_feature_string.Goals as goal

pub returns-in_err-state-clause-law : goal.returns-in_err-state-clause-law
returns-in_err-state-clause-law c =
    let told : map_ok form c.from_residual.result ≡ Err (NoForm c.loop-at.at) = search rules in
    form-law c.args.text.now _ (told ∙ grind (arith, common_steps))

pub loop-at-preserved : goal.loop-at-preserved
loop-at-preserved c = (
  room-more c.loop-at.state c.in_ok-state.state (get_or c.args.text.now c.loop-at.at 0) c.loop-at.at (grind (arith, common_steps)) c.loop-at.invariant.0,
  grind (arith, common_steps),
)

pub returns-clause-law : goal.returns-clause-law
returns-clause-law c = form-law c.args.text.now _ (grind (arith, common_steps))
