-- Edge kinds by number.
use Rattle.std.specs.Prelude.{ℕ, List, [], ◌∷◌, length, Option, ◌==◌}
use Rattle.std.specs.List.{find}
use Rattle.lanes.specs.declared.edge_kinds.EdgeKind.{EdgeKind}
use Rattle.lanes.specs.declared.edge_kinds.EdgeKind.TheVariants.{Normal, Build, Dev}
use Rattle.lanes.specs.declared.edge_kinds.UnknownEdgeKind.{UnknownEdgeKind}

abbrev pub edge_kind_number : EdgeKind → ℕ
edge_kind_number Normal = 0
edge_kind_number Build = 1
edge_kind_number Dev = 2

-- every edge kind
abbrev pub all_edge_kinds : List EdgeKind
all_edge_kinds = Normal ∷ Build ∷ Dev ∷ []

-- how many edge kinds there are
abbrev pub edge_kinds : ℕ
edge_kinds = length all_edge_kinds

-- the edge kind of a number, if it has one
abbrev pub edge_kind_at : ℕ → Option EdgeKind
edge_kind_at n = find (λ kind. n == edge_kind_number kind) all_edge_kinds

-- the number is no edge kind's
abbrev pub unknown_edge_kind : ℕ → UnknownEdgeKind
unknown_edge_kind n = record { 0 = n }
