-- The numbers of the kinds.
use Rattle.std.specs.Prelude.{ℕ, ◌==◌, Result, Ok, Err, if◌then◌else◌}
use Rattle.graph_files.specs.declared.kinds.NoKind.{NoKind}
use Rattle.graph_files.specs.declared.kinds.RecordKind.{RecordKind}
use Rattle.graph_files.specs.declared.kinds.RecordKind.TheVariants.{Header, Package, Dependency, Feature, End}
use Rattle.graph_files.specs.declared.kinds.EdgeKind.{EdgeKind}
use Rattle.graph_files.specs.declared.kinds.EdgeKind.TheVariants.{Normal, Build, Dev}

abbrev pub record_kind_number : RecordKind → ℕ
record_kind_number Header = 1
record_kind_number Package = 2
record_kind_number Dependency = 3
record_kind_number Feature = 4
record_kind_number End = 5

abbrev pub edge_kind_number : EdgeKind → ℕ
edge_kind_number Normal = 0
edge_kind_number Build = 1
edge_kind_number Dev = 2

abbrev pub no_kind : NoKind
no_kind = record {}

abbrev pub record_kind_of : ℕ → Result RecordKind NoKind
record_kind_of n =
    if n == 1 then Ok Header
    else if n == 2 then Ok Package
    else if n == 3 then Ok Dependency
    else if n == 4 then Ok Feature
    else if n == 5 then Ok End
    else Err no_kind

abbrev pub edge_kind_of : ℕ → Result EdgeKind NoKind
edge_kind_of n =
    if n == 0 then Ok Normal
    else if n == 1 then Ok Build
    else if n == 2 then Ok Dev
    else Err no_kind
