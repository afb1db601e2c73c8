use Rattle.std.proofs.Common.{◌≡◌, List, length, take, drop}
use Rattle.std.specs.Iterator.Adapters.{rev_source}
use Rattle.std.specs.Slice.Iter.{iter_rest}
use Rattle.graph.specs.Depending.{last_keys}
use Rattle.graph.specs.Directory.{Places}
use Rattle.graph.specs.Second.{DeclarationPlace}
use Rattle.graph.specs.Views.{keys}
use Rattle.graph.proofs.directory.name_dependencies.Given as goal

-- the index has those behind the records that are left
abbrev pub invariant-loop-entry : goal.invariant-loop-entry
invariant-loop-entry l =
    (iter_rest (rev_source l.entry-iterator) ≡ take (length (iter_rest (rev_source l.entry-iterator))) (take l.count l.declarations))
    × ((xs : List DeclarationPlace) → Places l.file l.declarations l.count xs → keys l.named ≡ last_keys (drop (length (iter_rest (rev_source l.entry-iterator))) xs))
