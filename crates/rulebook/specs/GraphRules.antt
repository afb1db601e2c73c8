-- The rules of a graph on each side, by place, and what it is for a table to be that of a graph.
use Rattle.std.specs.Prelude.{◌≡◌, ℕ, ◌*◌, ◌<◌, ◌⊎◌, length, Some, option_map}
use Rattle.records.specs.Graphs.{Graph}
use Rattle.graph.specs.Items.{item_on}
use Rattle.graph.specs.OpeningLaw.{IsRuleOf}
use Rattle.graph.specs.Places.{ItemPlace, unit, dep, feat, dependencies_of, features_of, number, item_count}
use Rattle.graph.specs.Rules.{Rule}
use Rattle.lanes.specs.declared.sides.Side.{Side}
use Rattle.lanes.specs.Sides.{sides}
use Rattle.policy.specs.Answers.{Answers}
use Rattle.rulebook.specs.declared.entries.WatchEntry.{WatchEntry}
use Rattle.rulebook.specs.Tables.{Table}
use Rattle.rulebook.specs.GraphTable.{landing, row_lead}

-- the graph has this item
abbrev pub Has : Graph → ItemPlace → Type 0
Has g (unit p) = p < length g
Has g (dep p k) = k < length (dependencies_of g p)
Has g (feat p k) = k < length (features_of g p)

-- the number of an item on a side
abbrev pub number_on : Graph → Side → ItemPlace → ℕ
number_on g s x = item_on (item_count g) s (number g x)

-- on side s, a rule leads to side goal
abbrev pub Leads : Answers → Side → Rule → Side → Type 0
Leads answers s ρ goal = landing s ρ.cross (row_lead answers s ρ.lane) ≡ Some goal

-- e is the entry that item i has of a rule that stands, and that is not cut on the side of its premises: i is one of
-- these, the partner is the other, if there is one, and the conclusion is the rule's
pub record IsWatchEntryOf (answers : Answers) (g : Graph) (i : ℕ) (e : WatchEntry) : Type 0 where
  pub side : Side
  pub goal : Side
  pub rule : Rule
  pub is_rule : IsRuleOf g rule
  pub leads : Leads answers side rule goal
  pub conclusion : e.conclusion ≡ number_on g goal rule.to
  pub premises : ((i ≡ number_on g side rule.from) × (e.partner ≡ option_map (number_on g side) rule.with))
      ⊎ ((x : ItemPlace) × (rule.with ≡ Some x) × (i ≡ number_on g side x)
      × (e.partner ≡ Some (number_on g side rule.from)))

-- the table is that of a graph under these answers:
pub record TableOf (answers : Answers) (g : Graph) (t : Table) : Type 0 where
  -- its items are the graph's on each side, each with a number of its own;
  pub items : t.items ≡ sides * item_count g
  pub below : (s : Side) (x : ItemPlace) → Has g x → number_on g s x < t.items
  pub apart : (s u : Side) (x y : ItemPlace) → Has g x → Has g y →
      number_on g s x ≡ number_on g u y → (s ≡ u) × (x ≡ y)
  pub all : (i : ℕ) → i < t.items → (s : Side) × (x : ItemPlace) × Has g x × (number_on g s x ≡ i)
  -- its entries are those of the graph's rules, where they lead
  pub sound : (i r : ℕ) (e : WatchEntry) → t.entry i r ≡ Some e → IsWatchEntryOf answers g i e
  pub complete : (i : ℕ) (e : WatchEntry) → IsWatchEntryOf answers g i e →
      (r : ℕ) × (t.entry i r ≡ Some e)
