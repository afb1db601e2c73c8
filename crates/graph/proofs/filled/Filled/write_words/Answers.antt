use Rattle.std.proofs.Common.{◌≡◌, ◌+◌, ◌*◌, length, Ok, sym, ◌∙◌, arith}
use Rattle.std.proofs.lemmas.Bool.{cond-false, le-ltb}
use Rattle.graph.specs.RowLists.{its}
use Rattle.graph.specs.Opening.{opened_counts, rows_answer}
use Rattle.graph.specs.Limits.{max_rule_rows}
use Rattle.graph.specs.Words.{rows}
use Rattle.graph.proofs.FilledTells.{packages-told, dependencies-told, features-told}
use Rattle.graph.proofs.filled.Filled.write_words.Goals as goal

pub returns-clause-answer : goal.returns-clause-answer
returns-clause-answer c =
    let x = c.args.self.now in
    let g = its x in
    let n = x.directory.now.counts.read in
    let words = c.args.words.now in
    let r : c.write_all-rows.result ≡ length (rows g) = omega (arith, c.write_all-rows.ensures.count, c.if-rows-gt-MAX_RULE_ROWS.false) in
    let all : rows_answer g n words ≡ Ok (opened_counts g n) =
    cond-false _ _ _ (le-ltb max_rule_rows (length (rows g)) (omega (arith, r, c.if-rows-gt-MAX_RULE_ROWS.false)))
    ∙ cond-false _ _ _ (le-ltb (length words) (4 + 5 * length (rows g)) (omega (arith, r, c.if-words-row_start.false, c.row_start.ensures))) in
    (λ i. Ok (record { read = n; packages = packages-told x i; dependencies = dependencies-told x i; features = features-told x i; rows = r i })) ∙ sym all
