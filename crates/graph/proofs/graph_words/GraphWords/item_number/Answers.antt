use Rattle.std.proofs.Common.{ℕ, ◌+◌, sym, ap, ◌∙◌}
use Rattle.graph.specs.Items.{item_at}
use Rattle.graph.specs.Words.{word_counts}
use Rattle.graph.proofs.ItemNumbers.{number-item}
use Rattle.graph.proofs.graph_words.GraphWords.item_number.Goals as goal

pub returns-clause-back : goal.returns-clause-back
returns-clause-back c =
    let counts = word_counts c.args.self.now.words.now in
    ap (λ (n : ℕ). item_at counts (n + c.in_ok-number.number)) c.first_item.ensures
    ∙ number-item counts c.args.item.side c.args.item.local c.in_ok-number.number (sym c.local_number.ensures ∙ c.in_ok-number.was)
