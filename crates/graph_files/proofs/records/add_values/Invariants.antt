use Rattle.std.proofs.Common.{◌≡◌, ◌++◌, ◌∷◌, length, take}
use Rattle.std.specs.List.{flat_map}
use Rattle.graph_files.specs.Bytes.{byte_of, value_bytes}
use Rattle.graph_files.proofs.records.add_values.Given as goal

-- those so far are written
abbrev pub invariant-loop-value : goal.invariant-loop-value
invariant-loop-value l =
    l.body.items
    ≡ l.fn.body.items ++ (byte_of (length l.values) ∷ flat_map value_bytes (take l.value-index l.values))
