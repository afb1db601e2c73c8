use Rattle.std.proofs.Common.{◌≡◌, ◌+◌, length, Ok, sym, ap, ◌∙◌, arith}
use Rattle.records.specs.Graphs.{Graph}
use Rattle.graph.specs.Directory.{Tells}
use Rattle.graph.specs.Second.{declaration_places}
use Rattle.graph.proofs.DependenciesNamed.{all-places, keys-count, placed-keys}
use Rattle.graph.proofs.Keyed.{accepted}
use Rattle.graph.proofs.Resolving.{placed-length}
use Rattle.graph.proofs.tables.Directory.read.Goals as goal
use Rattle.graph.proofs.tables.Directory.read.Goals.{After-fill}

pub fill-requires : goal.fill-requires
fill-requires c =
    let left = c.in_ok-self.ensures in
    let a = accepted c.args.self.now.index.file.now c.requires.bytes c.first_reading.new.index c.in_ok-self.field-0 left.file left.featured left.value in
    (a.0, a.2)

-- the graph that the filled tables tell
told : (c : After-fill) → (g : Graph) × Tells c.fill.new.self g
told c =
    let left = c.in_ok-self.ensures in
    let a = accepted c.args.self.now.index.file.now c.requires.bytes c.first_reading.new.index c.in_ok-self.field-0 left.file left.featured left.value in
    (a.0, c.fill.ensures.told a.0 a.2)

pub overflow_add-count : goal.overflow_add-count
overflow_add-count c =
    let t = told (goal.at.overflow_add-count c).After-fill in
    omega (arith, ap (λ n. n.dependencies) t.1.counted, ap (λ n. n.features) t.1.counted, t.1.says.lawful.few_dependencies, t.1.says.lawful.few_features)

pub name_dependencies-requires-clause-told : goal.name_dependencies-requires-clause-told
name_dependencies-requires-clause-told c =
    let dir = c.fill.new.self in
    let t = told (goal.at.name_dependencies-requires-clause-told c).After-fill in
    let all : dir.counts.dependencies + dir.counts.features ≡ length (declaration_places t.0) = omega (arith, ap (λ n. n.dependencies) t.1.counted, ap (λ n. n.features) t.1.counted, placed-length t.0) in
    (declaration_places t.0, all-places dir t.0 t.1 _ all, omega (arith, all, placed-length t.0, t.1.says.lawful.few_dependencies, t.1.says.lawful.few_features), omega (arith, keys-count t.0, t.1.says.lawful.few_dependencies))

pub returns : goal.returns
returns c =
    let dir = c.fill.new.self in
    let left = c.in_ok-self.ensures in
    let a = accepted c.args.self.now.index.file.now c.requires.bytes c.first_reading.new.index c.in_ok-self.field-0 left.file left.featured left.value in
    let g : Graph = a.0 in
    let t = c.fill.ensures.told g a.2 in
    let all : dir.counts.dependencies + dir.counts.features ≡ length (declaration_places g) = omega (arith, ap (λ n. n.dependencies) t.counted, ap (λ n. n.features) t.counted, placed-length g) in
    let places = all-places dir g t _ all in (
      ap (λ i. i.file.now) c.fill.ensures.kept.0 ∙ left.file,
      (
        g,
        a.1 ∙ ap (λ x. Ok (g, x.read)) (sym c.fill.ensures.kept.2),
        record { says = t.says; keyed = t.keyed; counted = t.counted; packaged = t.packaged; depending = t.depending; featuring = t.featuring; parted = t.parted },
        c.name_dependencies.ensures (declaration_places g) places ∙ placed-keys g,
      ),
    )
