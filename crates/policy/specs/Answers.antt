-- Policies by their answers.
use Rattle.std.specs.Prelude.{ℕ, Bool, true, false, [], Some, None, Option, ◌≢◌, slice_index_or}
use Rattle.lanes.specs.declared.edge_kinds.EdgeKind.{EdgeKind}
use Rattle.lanes.specs.declared.edge_kinds.EdgeKind.TheVariants.{Normal, Build, Dev}
use Rattle.lanes.specs.declared.lane_numbers.Lane.{Lane}
use Rattle.lanes.specs.declared.sides.Side.{Side}
use Rattle.lanes.specs.declared.sides.Side.TheVariants as side
use Rattle.policy.specs.declared.policy_table.PolicyTable.{PolicyTable}
use Rattle.lanes.specs.Sides.{side_at, side_number}
use Rattle.lanes.specs.Lanes.{lane_at, lane_number}

-- where each lane leads from each side; a cut lane leads nowhere
abbrev pub Answers : Type 0
Answers = Lane → Side → Option Side

-- from the host, no lane leads to the target
abbrev pub LawfulAnswers : Answers → Type 0
LawfulAnswers answers = (lane : Lane) → answers lane side.Host ≢ Some side.Target

-- by number: a lane or side that there is not is cut
abbrev pub answer_if_any : Answers → Option Lane → Option Side → Option Side
answer_if_any answers None s = None
answer_if_any answers (Some l) None = None
answer_if_any answers (Some l) (Some s) = answers l s

abbrev pub answer_by_number : Answers → ℕ → ℕ → Option Side
answer_by_number answers lane side = answer_if_any answers (lane_at lane) (side_at side)

-- unified: each side leads to itself
abbrev pub unified : Answers
unified lane s = Some s

-- host-split: build dependencies and procedural macros lead to the host, all else stays on its side
abbrev pub split_by : EdgeKind → Bool → Side → Option Side
split_by Normal false s = Some s
split_by Normal true s = Some side.Host
split_by Build m s = Some side.Host
split_by Dev false s = Some s
split_by Dev true s = Some side.Host

abbrev pub host_split : Answers
host_split lane s = split_by lane.edge lane.procedural s

-- dev cut, over any policy: dev dependencies are cut, all else is as below
abbrev pub cut_by : EdgeKind → Option Side → Option Side
cut_by Normal below = below
cut_by Build below = below
cut_by Dev below = None

abbrev pub dev_cut : Answers → Answers
dev_cut below lane s = cut_by lane.edge (below lane s)

-- the answers that a table holds
abbrev pub answers_of : PolicyTable → Answers
answers_of table lane s =
    slice_index_or (slice_index_or table.leads (side_number s) []) (lane_number lane) None
