use Rattle.std.proofs.Common.{sym, ◌∙◌}
use Rattle.policy.specs.Answers.{answers_of}
use Rattle.rulebook.proofs.SideSeeks.{no-side-seek}
use Rattle.rulebook.proofs.graph_book.GraphBookRulebook.seek.Goals as goal

pub returns-in_err-side_of : goal.returns-in_err-side_of
returns-in_err-side_of c =
    c.from_residual.ensures
    ∙ sym (no-side-seek (answers_of c.args.self.now.answers) c.args.self.now.words.words.now c.args.item c.args.row (sym c.side_of.ensures ∙ c.in_err-side_of.was))
