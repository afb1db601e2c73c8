use Rattle.std.proofs.Common.{◌≡◌, Ok, Err, sym, ap, ◌∙◌, subst}
use Rattle.std.proofs.lemmas.Grind.{merely}
use Rattle.std.proofs.lemmas.Result.{err_from_is_err_and}
use Rattle.graph.specs.Directory.{ReadAs}
use Rattle.graph.specs.Opening.{open_answer}
use Rattle.graph.specs.Reading.{first_reading}
use Rattle.graph.proofs.Keyed.{bytes_fit}
use Rattle.graph.proofs.OpenLaw.{opening-law}
use Rattle.graph.proofs.Opens.{first-refused, told, named, second-refused, both-accept, left-by, left-as-they-were, opened-rules}
use Rattle.graph.proofs.opening.open_graph.Goals as goal

-- what `?` hands on is the error of the call: the library's lemma says so in two halves
pub returns-in_err-read : goal.returns-in_err-read
returns-in_err-read c =
    let file = c.args.file.now in
    let words = c.args.words.now in
    let p = err_from_is_err_and c.from_residual.result c.from_residual.ensures.1 in
    let h = first-refused file words c.in_err-read.field-0.0 (ap first_reading (sym c.new-directory.ensures.0) ∙ c.in_err-read.ensures) in
    let e : c.from_residual.result ≡ open_answer file words = p.1 ∙ ap (λ y. Err y) p.2 ∙ sym h in
    let f = left-as-they-were file words _ h in
    record { answer = e; words = f; law = opening-law file words (bytes_fit file c.type_inv.file) _ words e f; rules = opened-rules file }

pub invariant_of-filled : goal.invariant_of-filled
invariant_of-filled c = record {
  told = merely (told c.new-directory.result.index.file.now c.args.words.now c.read.new.self c.in_ok-read.ensures);
  named = merely (named c.new-directory.result.index.file.now c.args.words.now c.read.new.self c.in_ok-read.ensures);
}

pub returns-in_err-second_reading : goal.returns-in_err-second_reading
returns-in_err-second_reading c =
    let file = c.args.file.now in
    let words = c.args.words.now in
    let p = err_from_is_err_and c.from_residual-in_err-second_reading.result c.from_residual-in_err-second_reading.ensures.1 in
    let read = subst (λ f. ReadAs f (Ok tt) c.read.new.self) c.new-directory.ensures.0 c.in_ok-read.ensures in
    let h = second-refused file words c.read.new.self read c.in_err-second_reading.field-0.0 c.in_err-second_reading.ensures in
    let e : c.from_residual-in_err-second_reading.result ≡ open_answer file words = p.1 ∙ ap (λ y. Err y) p.2 ∙ sym h in
    let f = left-as-they-were file words _ h in
    record { answer = e; words = f; law = opening-law file words (bytes_fit file c.type_inv.file) _ words e f; rules = opened-rules file }

pub returns : goal.returns
returns c =
    let file = c.args.file.now in
    let words = c.args.words.now in
    let read = subst (λ f. ReadAs f (Ok tt) c.read.new.self) c.new-directory.ensures.0 c.in_ok-read.ensures in
    let h = both-accept file words c.read.new.self read c.in_ok-second_reading.ensures in
    let e : c.write_words.result ≡ open_answer file words = c.write_words.ensures.answer ∙ sym h in
    let f = left-by file words c.read.new.self read _ _ e c.write_words.ensures.words in
    record { answer = e; words = f; law = opening-law file words (bytes_fit file c.type_inv.file) _ _ e f; rules = opened-rules file }
