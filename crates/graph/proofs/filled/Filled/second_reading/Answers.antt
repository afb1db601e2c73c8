use Rattle.std.proofs.Common.{rules, Err, ap, ◌∙◌}
use Rattle.std.proofs.lemmas.Result.{err_from_is_err_and}
use Rattle.graph.specs.RowLists.{its}
use Rattle.graph.specs.Second.{check_names, check_end, declaration_places, check_references, then_check}
use Rattle.graph.proofs.filled.Filled.second_reading.Goals as goal

-- what `?` hands on is the error of the call: the library's lemma says so in two halves, and a lemma of one would only put them together
pub returns-in_err-check : goal.returns-in_err-check
returns-in_err-check c =
    let g = its c.args.self.now in
    let p = err_from_is_err_and c.from_residual.result c.from_residual.ensures.1 in
    p.1 ∙ ap (λ e. Err e) p.2 ∙ ap (λ r. then_check r (check_references g (declaration_places g))) (c.in_err-check.ensures (λ p x. check_end g x) (λ p x r h. search rules))

pub returns : goal.returns
returns c =
    let g = its c.args.self.now in
    c.check-2.ensures (check_names g) (λ p x r h. search rules)
    ∙ ap (λ r. then_check r (check_references g (declaration_places g))) (c.in_ok-check.ensures (λ p x. check_end g x) (λ p x r h. search rules))
