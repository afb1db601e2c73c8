-- Lanes by number: the edge kind is the lowest digit, the mark of a procedural macro the next.
use Rattle.std.specs.Prelude.{ℕ, ◌+◌, ◌*◌, ◌/◌, ◌%◌, Some, None, Option, ◌==◌, nat_lt, unwrap_or, if◌then◌else◌}
use Rattle.std.specs.Int.{from_bool}
use Rattle.lanes.specs.declared.edge_kinds.EdgeKind.TheVariants.{Normal}
use Rattle.lanes.specs.declared.lane_numbers.Lane.{Lane}
use Rattle.lanes.specs.declared.lane_numbers.UnknownLane.{UnknownLane}
use Rattle.lanes.specs.EdgeKinds.{edge_kinds, edge_kind_number, edge_kind_at}

-- how many values a mark has
abbrev pub marks : ℕ
marks = 2

-- how many lanes there are
abbrev pub lanes : ℕ
lanes = edge_kinds * marks

abbrev pub lane_number : Lane → ℕ
lane_number l = edge_kind_number l.edge + edge_kinds * from_bool l.procedural

-- the lane whose digits are the lowest ones of a number
abbrev pub lane_of : ℕ → Lane
lane_of n = record {
  edge = unwrap_or (edge_kind_at (n % edge_kinds)) Normal;
  procedural = ((n / edge_kinds) % marks == 1);
}

-- the lane of a number, if it has one
abbrev pub lane_at : ℕ → Option Lane
lane_at n = if nat_lt n lanes then Some (lane_of n) else None

-- the number is no lane's
abbrev pub unknown_lane : ℕ → UnknownLane
unknown_lane n = record { 0 = n }
