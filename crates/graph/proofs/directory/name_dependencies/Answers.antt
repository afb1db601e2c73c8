use Rattle.std.proofs.Common.{[], ◌∷◌, append-nil, sym, ◌∙◌, arith}
use Rattle.std.specs.Iterator.Adapters.{rev_source}
use Rattle.std.specs.Slice.Iter.{iter_rest}
use Rattle.graph.specs.Buckets.{key_view}
use Rattle.graph.specs.Views.{keys}
use Rattle.graph.proofs.DependenciesNamed.{after-front, turn-keys, turn-room}
use Rattle.graph.proofs.Links.{keys_length}
use Rattle.graph.proofs.directory.name_dependencies.Goals as goal

pub add-requires : goal.add-requires
add-requires c =
    let l = c.loop-entry in
    let s = l.named.lists in
    let count = keys_length s.entries s.count (omega (arith, l.named.few, l.named.linked.full)) in
    let room = turn-room c.args.declarations.now c.args.count (iter_rest (rev_source l.entry-iterator)) (iter_rest (rev_source c.next.new.self)) c.in-Some.entry.now c.in-Some.ensures.steps l.invariant.0 c.args.file.now (keys l.named) (key_view c.in-Some-key_of.key ∷ []) l.invariant.1 c.in-Some-key_of.ensures c.requires.told.0 c.requires.told.1 in
    record { room = omega (arith, count, room, c.requires.told.3) }

pub loop-entry-preserved-in-Some-key_of : goal.loop-entry-preserved-in-Some-key_of
loop-entry-preserved-in-Some-key_of c =
    let l = c.loop-entry in
    let before = iter_rest (rev_source l.entry-iterator) in
    let after = iter_rest (rev_source c.next.new.self) in
    let x = c.in-Some.entry.now in (
      after-front c.args.declarations.now c.args.count before after x c.in-Some.ensures.steps l.invariant.0,
      λ xs told. c.add.ensures.keys ∙ turn-keys c.args.declarations.now c.args.count before after x c.in-Some.ensures.steps l.invariant.0 c.args.file.now (keys l.named) (key_view c.in-Some-key_of.key ∷ []) l.invariant.1 c.in-Some-key_of.ensures xs told,
    )

pub loop-entry-preserved : goal.loop-entry-preserved
loop-entry-preserved c =
    let l = c.loop-entry in
    let before = iter_rest (rev_source l.entry-iterator) in
    let after = iter_rest (rev_source c.next.new.self) in
    let x = c.in-Some.entry.now in (
      after-front c.args.declarations.now c.args.count before after x c.in-Some.ensures.steps l.invariant.0,
      λ xs told. sym (append-nil (keys l.named)) ∙ turn-keys c.args.declarations.now c.args.count before after x c.in-Some.ensures.steps l.invariant.0 c.args.file.now (keys l.named) [] l.invariant.1 c.in_default.ensures xs told,
    )
