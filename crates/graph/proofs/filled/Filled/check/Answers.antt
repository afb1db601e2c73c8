use Rattle.std.proofs.Common.{◌≡◌, ◌+◌, ◌<◌, length, get_or, Err, Result, sym, ap, ◌∙◌, arith}
use Rattle.records.specs.declared.faults.RecordFault.{RecordFault}
use Rattle.graph.specs.Directory.{no_place}
use Rattle.graph.specs.RowLists.{its}
use Rattle.graph.specs.Second.{DeclarationPlace, declaration_places, check_all}
use Rattle.graph.specs.Views.{declaration_view}
use Rattle.graph.proofs.Namings.{same-part, check-stops}
use Rattle.graph.proofs.Resolving.{placed-number}
use Rattle.graph.proofs.filled.Filled.check.Goals as goal

pub returns-in-Err : goal.returns-in-Err
returns-in-Err g c = λ test a.
    let x = c.args.self.now in
    let j = c.loop-j.j in
    let t : DeclarationPlace → Result (Unit {0}) RecordFault = λ y. test y.owner y.declaration in
    let l : j < length (declaration_places (its x)) = omega (arith, c.loop-j-test.true, c.declarations-entry-items.ensures.count) in
    let y = get_or (declaration_places (its x)) j no_place in
    let at = c.declarations-entry-items.ensures.declarations j l in
    let same : declaration_view c.in-Some.declaration ≡ y.declaration = same-part _ _ (c.in-Some.ensures y.declaration at.2) in
    let found : t y ≡ Err c.in-Err.fault = (λ i. test (sym at.1 i) (sym same i)) ∙ sym (a _ _ _ c.in-Err.ensures) in
    check-stops t (declaration_places (its x)) j (check_all t (declaration_places (its x))) (c.loop-j.invariant test a) l _ _ _ found (ap (λ n. (j + n) + 2) at.1 ∙ sym (placed-number (its x) j l)) at.0
