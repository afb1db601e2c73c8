use Rattle.std.proofs.Common.{◌≡◌, ◌++◌, ◌∷◌, length, take}
use Rattle.std.specs.List.{flat_map}
use Rattle.graph_files.specs.Bytes.{byte_of, name_bytes}
use Rattle.graph_files.proofs.records.add_names.Given as goal

-- those so far are written
abbrev pub invariant-loop-name : goal.invariant-loop-name
invariant-loop-name l =
    l.body.items
    ≡ l.fn.body.items ++ (byte_of (length l.names) ∷ flat_map name_bytes (take l.name-index l.names))
