-- The worked example, over the definitions.
use Rattle.std.proofs.Common.{◌≡◌, ℕ, ◌≤◌, ltb, List, length, Ok, Err, refl, ap, ◌∙◌}
use Rattle.std.proofs.lemmas.Bool.{cond-false, le-ltb}
use Rattle.records.specs.Encoding.{encode}
use Rattle.graph.specs.Examples.{example, typo_example, example_opened, example_words, typo_fault, Examples}
use Rattle.graph.specs.Opening.{over, after_first, after_second, rows_answer, open_answer, words_after, open_leaves}
use Rattle.graph.specs.Reading.{first_reading, graph_of, scan, scan_at_most}
use Rattle.graph.specs.Second.{second_reading}
use Rattle.graph.specs.Words.{graph_words}
use Rattle.graph.proofs.OpenLaw.{graph-read}

reads : first_reading (encode example) ≡ Ok (example, 173)
unfolding scan scan_at_most
reads = refl

reads-typo : first_reading (encode typo_example) ≡ Ok (typo_example, 173)
unfolding scan scan_at_most
reads-typo = refl

pub opens : (words : List ℕ) → 54 ≤ length words → open_answer (encode example) words ≡ Ok example_opened
opens words l =
    ap (λ r. after_first r (λ g n. after_second (second_reading g) (rows_answer g n words))) reads
    ∙ cond-false (ltb (length words) 54) _ _ (le-ltb (length words) 54 l)

leaves : (words : List ℕ) → 54 ≤ length words → open_leaves (encode example) words ≡ over example_words words
leaves words l =
    ap (λ r. words_after r (graph_of (encode example)) words) (opens words l)
    ∙ ap (λ g. over (graph_words g) words) (graph-read (encode example) example 173 reads)

refuses : (words : List ℕ) → open_answer (encode typo_example) words ≡ Err typo_fault
refuses words = ap (λ r. after_first r (λ g n. after_second (second_reading g) (rows_answer g n words))) reads-typo

pub examples : Examples
examples = record { bytes = refl; items = refl; words = refl; size = refl; opens = opens; leaves = leaves; refuses = refuses; refusal = refl; byte = refl }
