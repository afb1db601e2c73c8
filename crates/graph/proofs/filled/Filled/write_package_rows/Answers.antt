use Rattle.std.proofs.Common.{◌≡◌, suc, ◌+◌, map, length, sym, ap, ◌∙◌, arith}
use Rattle.records.specs.Graphs.{dependency, feature}
use Rattle.graph.specs.RowLists.{its, dependencies_rows, features_rows, package_rows, rows_below}
use Rattle.graph.specs.Places.{dep, feat, dependencies_of, features_of, number}
use Rattle.graph.specs.RowWriters.{write_rows}
use Rattle.graph.proofs.FilledTells.{packages-told}
use Rattle.graph.proofs.PartRows.{dependency-table, feature-table, dependencies-each, features-each}
use Rattle.graph.proofs.SheetRows.{lays-append}
use Rattle.graph.proofs.filled.Filled.write_package_rows.Goals as goal

pub loop-p-preserved : goal.loop-p-preserved
loop-p-preserved c =
    let x = c.args.self.now in
    let g = its x in
    let s = c.args.writer.now in
    let p = c.loop-p.p in
    let e : suc p ≡ p + 1 = omega arith in
    let d = c.dependencies.ensures in
    let f = c.features.ensures in
    let first = c.rows_of_declarations.ensures (λ k. number g (dep p k)) (map dependency (dependencies_of g p)) (dependency-table x p _ d.count d.records d.number) ∙ ap (write_rows _) (dependencies-each g p) in
    let second = c.rows_of_declarations-in-loop-p.ensures (λ k. number g (feat p k)) (map feature (features_of g p)) (feature-table x p _ f.count f.records f.number) ∙ ap (write_rows _) (features-each g p) in
    second
    ∙ ap (λ t. write_rows t (features_rows g p)) (first ∙ ap (λ t. write_rows t (dependencies_rows g p)) c.loop-p.invariant)
    ∙ sym (lays-append (write_rows s (rows_below g p)) (dependencies_rows g p) (features_rows g p))
    ∙ sym (lays-append s (rows_below g p) (package_rows g p))
    ∙ ap (λ n. write_rows s (rows_below g n)) e

pub returns : goal.returns
returns c =
    let x = c.args.self.now in
    let e : c.loop-p.p ≡ length (its x) = omega (arith, c.loop-p-test.false, c.loop-p.auto.p-end, packages-told x) in
    c.loop-p.invariant ∙ ap (λ n. write_rows c.args.writer.now (rows_below (its x) n)) e
