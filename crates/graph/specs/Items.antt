-- Items by number, on their sides: those of a side are numbered one after the other, units first, then dependencies,
-- then features.
use Rattle.std.specs.Prelude.{if◌then◌else◌, ℕ, ◌+◌, ◌-◌, ◌*◌, ◌/◌, Some, None, Option, ◌==◌, nat_lt, option_map}
use Rattle.lanes.specs.declared.sides.Side.{Side}
use Rattle.lanes.specs.Sides.{side_number, side_at}
use Rattle.graph.specs.declared.graph_words.WordCounts.{WordCounts}
use Rattle.graph.specs.declared.items.Item.{Item}
use Rattle.graph.specs.declared.items.LocalItem.{LocalItem}
use Rattle.graph.specs.declared.items.LocalItem.TheVariants.{Unit, Dependency, Feature}
use Rattle.graph.specs.Words.{local_items}

-- the number of the first item of a side, with n local items; and that of a local item on a side
abbrev pub first_item : ℕ → Side → ℕ
first_item n s = side_number s * n

abbrev pub item_on : ℕ → Side → ℕ → ℕ
item_on n s i = first_item n s + i

-- the side of an item: none beyond the items of all sides
abbrev pub side_of : ℕ → ℕ → Option Side
side_of n i = if n == 0 then None else side_at (i / n)

-- number k of so many, which are numbered from a first on
abbrev pub numbered_from : ℕ → ℕ → ℕ → Option ℕ
numbered_from first count k = if nat_lt k count then Some (first + k) else None

-- the local number of a unit, dependency or feature, if there is such a one
abbrev pub local_number : WordCounts → LocalItem → Option ℕ
local_number c (Unit p) = numbered_from 0 c.packages p
local_number c (Dependency d) = numbered_from c.packages c.dependencies d
local_number c (Feature f) = numbered_from (c.packages + c.dependencies) c.features f

-- what a local number is that of
abbrev pub local_item : WordCounts → ℕ → Option LocalItem
local_item c i =
    if nat_lt i c.packages then Some (Unit i)
    else (if nat_lt (i - c.packages) c.dependencies then Some (Dependency (i - c.packages))
    else (if nat_lt (i - c.packages - c.dependencies) c.features
    then Some (Feature (i - c.packages - c.dependencies))
    else None))

-- the number of an item, and the item of a number
abbrev pub item_number : WordCounts → Item → Option ℕ
item_number c x = option_map (item_on (local_items c) x.side) (local_number c x.local)

abbrev pub item_from : WordCounts → ℕ → Option Side → Option Item
item_from c i None = None
item_from c i (Some s) =
    option_map (λ l. record { side = s; local = l })
    (local_item c (i - first_item (local_items c) s))

abbrev pub item_at : WordCounts → ℕ → Option Item
item_at c i = item_from c i (side_of (local_items c) i)
