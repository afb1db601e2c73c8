-- What a graph book means: the rules of graph words on each side, where a policy lets them lead.
use Rattle.std.specs.Prelude.{ℕ, ◌*◌, Bool, true, false, List, Some, None, Option, option_map}
use Rattle.lanes.specs.declared.lane_numbers.Lane.{Lane}
use Rattle.lanes.specs.declared.sides.Side.{Side}
use Rattle.lanes.specs.Sides.{sides}
use Rattle.graph.specs.declared.rows.ItemRule.{ItemRule}
use Rattle.graph.specs.declared.rows.Row.{Row}
use Rattle.graph.specs.Items.{item_on, side_of}
use Rattle.graph.specs.Words.{local_count, row_count, row_in}
use Rattle.policy.specs.Answers.{Answers}
use Rattle.rulebook.specs.Tables.{Table}
use Rattle.rulebook.specs.Watch.{rule_table}

-- where a row leads from a side: one about no dependency to the same side
abbrev pub row_lead : Answers → Side → Option Lane → Option Side
row_lead answers s None = Some s
row_lead answers s (Some l) = answers l s

-- the side of a conclusion: none, if the lane is cut; where the lane leads, with cross; else the same side
abbrev pub landing : Side → Bool → Option Side → Option Side
landing s cross None = None
landing s false (Some goal) = Some s
landing s true (Some goal) = Some goal

-- a rule between local items as one between items: its premises on side s, its conclusion on side goal
abbrev pub on_sides : ℕ → Side → Side → ItemRule → ItemRule
on_sides n s goal ρ = record {
  from = item_on n s ρ.from;
  with = option_map (item_on n s) ρ.with;
  to = item_on n goal ρ.to;
}

-- the rule that a row gives on a side: its premises are there
abbrev pub rule_on : Answers → ℕ → Side → Option Row → Option ItemRule
rule_on answers n s None = None
rule_on answers n s (Some row) =
    option_map (λ goal. on_sides n s goal row.rule) (landing s row.cross (row_lead answers s row.lane))

-- the rule of a row that is for an item: that of the item's side
abbrev pub rule_for : Answers → ℕ → Option Side → Option Row → Option ItemRule
rule_for answers n None row = None
rule_for answers n (Some s) row = rule_on answers n s row

abbrev pub graph_table : Answers → List ℕ → Table
graph_table answers ws =
    rule_table (sides * local_count ws) (row_count ws)
    (λ i r. rule_for answers (local_count ws) (side_of (local_count ws) i) (row_in ws r))
