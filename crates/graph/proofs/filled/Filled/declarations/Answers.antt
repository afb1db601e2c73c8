use Rattle.std.proofs.Common.{◌≡◌, ◌+◌, length, get_or, sym, ◌∙◌, subst, arith}
use Rattle.std.proofs.lemmas.List.{get_or-take, length-take-le}
use Rattle.graph.specs.Directory.{no_declaration_entry, no_place}
use Rattle.graph.specs.RowLists.{its, PlacedAs}
use Rattle.graph.specs.Second.{declaration_places}
use Rattle.graph.proofs.FilledTells.{dependencies-told, features-told, few-dependencies, few-features, part-placed}
use Rattle.graph.proofs.Resolving.{placed-length}
use Rattle.graph.proofs.filled.Filled.declarations.Goals as goal

pub returns : goal.returns
returns c =
    let x = c.args.self.now in
    let d = x.directory.now in
    let n = d.counts.dependencies + d.counts.features in
    let all : n ≡ length (declaration_places (its x)) = omega (arith, dependencies-told x, features-told x, placed-length (its x)) in
    record {
      count = length-take-le n d.declarations (omega (arith, dependencies-told x, features-told x, few-dependencies x, few-features x)) ∙ all;
      declarations = λ j l. subst (λ e. PlacedAs x e (get_or (declaration_places (its x)) j no_place)) (sym (get_or-take n d.declarations j no_declaration_entry (omega (arith, all)))) (part-placed x j l);
    }
