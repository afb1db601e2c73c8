use Rattle.std.proofs.Common.{rules, sym, ap, ◌∙◌}
use Rattle.records.specs.Bodies.{form_in, texts}
use Rattle.graph.specs.RowLists.{its}
use Rattle.graph.specs.Views.{declaration_view}
use Rattle.graph.specs.Second.{is_resolved, check_names}
use Rattle.graph.proofs.Namings.{known-texts}
use Rattle.graph.proofs.filled.Filled.check_names.Goals as goal

pub returns-in-Feature : goal.returns-in-Feature
returns-in-Feature c =
    c.check_each-in-Feature.ensures (λ t. is_resolved (its c.args.self.now) c.args.p (form_in t)) (λ t b h. search rules)
    ∙ known-texts (is_resolved (its c.args.self.now) c.args.p) _ (texts c.in-Feature.f.values)
    ∙ ap (λ x. check_names (its c.args.self.now) c.args.p (declaration_view x)) (sym c.in-Feature.is)
