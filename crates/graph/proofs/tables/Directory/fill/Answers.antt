use Rattle.std.proofs.Common.{rules, ◌≡◌, drop, Some, Ok, Err, sym, refl, ap, ◌∙◌}
use Rattle.std.proofs.lemmas.List.{take_rest}
use Rattle.records.specs.declared.frames.Kind.TheVariants as kind
use Rattle.records.specs.Frames.{kind_at, frame, frame_of}
use Rattle.records.proofs.KindNumbers.{number-of, no-kind}
use Rattle.graph.specs.Filling.{tables_of}
use Rattle.graph.proofs.Filling.{midway_start, never-faulty, known-kind, all_told}
use Rattle.graph.proofs.Telling.{directory-tells}
use Rattle.graph.proofs.tables.Directory.fill.Goals as goal

pub loop-frame-init : goal.loop-frame-init
loop-frame-init c = (refl, refl, refl, midway_start c.args.self.now.index.file.now (tables_of c.args.self.now) c.requires.0 c.requires.1.says)

pub returns-in_default-clause-told : goal.returns-in_default-clause-told
returns-in_default-clause-told c =
    let s = c.loop-frame.so_far in
    let file = c.args.self.now.index.file.now in
    let here : frame_of (drop s.read file) ≡ Err c.in_default.field-0 = ap frame_of (sym (take_rest file s.read)) ∙ sym c.in_default.ensures in
    absurd (never-faulty file (tables_of c.loop-frame.self) s.read s.packages s.dependencies s.features c.loop-frame.invariant.3 c.in_default.field-0 here)

pub returns-in_default-try_from-clause-told : goal.returns-in_default-try_from-clause-told
returns-in_default-try_from-clause-told c =
    let s = c.loop-frame.so_far in
    let file = c.args.self.now.index.file.now in
    let here : frame_of (drop s.read file) ≡ Ok (frame c.in-Ok.frame) = ap frame_of (sym (take_rest file s.read)) ∙ sym c.in-Ok.ensures in
    absurd (known-kind file (tables_of c.loop-frame.self) s.read s.packages s.dependencies s.features (frame c.in-Ok.frame) here c.loop-frame.invariant.3 (no-kind (kind_at c.in-Ok.frame.kind) _ c.in_default-try_from.ensures))

pub returns-then-eq-clause-told : goal.returns-then-eq-clause-told
returns-then-eq-clause-told c =
    let s = c.loop-frame.so_far in
    let dir = c.loop-frame.self in
    let old = c.args.self.now in
    let file = old.index.file.now in
    let here : frame_of (drop s.read file) ≡ Ok (frame c.in-Ok.frame) = ap frame_of (sym (take_rest file s.read)) ∙ sym c.in-Ok.ensures in
    let q : kind_at c.in-Ok.frame.kind ≡ Some kind.End = search rules in
    let told = all_told file (tables_of dir) s.read s.packages s.dependencies s.features (frame c.in-Ok.frame) here (number-of c.in-Ok.frame.kind kind.End q) c.loop-frame.invariant.3 in
    directory-tells dir old.index old.counts c.loop-frame.invariant.0 c.loop-frame.invariant.2 told.0 told.1 told.2
