-- The worked examples, over the definitions.
use Rattle.std.proofs.Common.{◌≡◌, ℕ, List, ◌++◌, length, drop, refl, sym, ap, ◌∙◌, lit<, arith}
use Rattle.std.proofs.lemmas.List.{append-nil}
use Rattle.std.proofs.Math.Seq.{drop-length}
use Rattle.records.specs.Encoding.{encode}
use Rattle.graph.specs.Examples.{example, example_words}
use Rattle.graph.specs.Opening.{open_leaves}
use Rattle.rulebook.specs.Tables.{Table}
use Rattle.session.specs.Causes.{by_two}
use Rattle.session.specs.States.{State, settle_run, request_leaves, settle_answer, settle_leaves}
use Rattle.graph.proofs.Worked.{examples}
use Rattle.resolver.specs.WorkedExamples.{example_table, new_session, example_items, example_asked, WorkedExamples}
use Rattle.resolver.proofs.PartsWorked.{part-examples}

pub worked-examples : WorkedExamples
worked-examples = record {
  files = examples;
  strings = (refl, refl, refl, refl);
  parts = part-examples;
  items = refl;
  rows = refl;
  request_accepted = refl;
  settle_11 = refl;
  trail = refl;
  settle_3 = refl;
  active_after_3 = refl;
  settle_10 = refl;
  answers = refl;
  trail_in_parts = refl;
  accepted = refl;
  steps = refl;
  entries = refl;
  settled = refl;
  because = by_two {row = 5} refl refl (lit< tt) (lit< tt) refl;
  refused_request = refl;
  request_after = refl;
  request_beyond = refl;
  number = refl;
  request_last = refl;
}

-- the states after the request, and after 3, 7 and 1 steps more
pub worked-states : (t : Table) (start requested after_3 after_10 end : State) → t ≡ example_table → start ≡ new_session →
    requested ≡ request_leaves start example_items → after_3 ≡ settle_leaves requested t 3 → after_10 ≡ settle_leaves after_3 t 7 → end ≡ settle_leaves after_10 t 1 →
    (requested ≡ example_asked)
    × (after_3 ≡ (settle_run example_asked example_table 3).state)
    × (after_10 ≡ (settle_run example_asked example_table 10).state)
    × (end ≡ (settle_run example_asked example_table 11).state)
worked-states t start requested after_3 after_10 end e s a b d f =
    let p : requested ≡ example_asked = a ∙ ap (λ u. request_leaves u example_items) s in
    let q : after_3 ≡ (settle_run example_asked example_table 3).state = b ∙ ap (λ v. settle_leaves requested v 3) e ∙ ap (λ u. settle_leaves u example_table 3) p in
    let r : after_10 ≡ (settle_run example_asked example_table 10).state = d ∙ ap (λ v. settle_leaves after_3 v 7) e ∙ ap (λ u. settle_leaves u example_table 7) q in
    let z : end ≡ (settle_run example_asked example_table 11).state = f ∙ ap (λ v. settle_leaves after_10 v 1) e ∙ ap (λ u. settle_leaves u example_table 1) r in
    (p, q, r, z)

-- an answer of settle by the table of the example, in a state that is known
pub settle-known : (t : Table) (b : ℕ) (s u : State) → t ≡ example_table → s ≡ u → settle_answer s t b ≡ settle_answer u example_table b
settle-known t b s u e f = ap (λ v. settle_answer s v b) e ∙ ap (λ u. settle_answer u example_table b) f

-- what opening the example file leaves in as many words as it needs
pub left-by-example : (words : List ℕ) → length words ≡ 54 → open_leaves (encode example) words ≡ example_words
left-by-example words l =
    examples.leaves words (omega (arith, l)) ∙ ap (λ ws. example_words ++ ws) (ap (λ n. drop n words) (sym l) ∙ drop-length words) ∙ append-nil example_words
