-- Items are found again from their numbers, and numbers from their items.
use Rattle.std.proofs.Common.{◌≡◌, ℕ, ◌+◌, ◌-◌, ◌*◌, ◌/◌, ◌<◌, ◌≤◌, eqb, Some, None, ap, ◌∙◌, arith}
use Rattle.std.specs.Prelude.{option_map}
use Rattle.std.proofs.Math.Arith.{digits_div}
use Rattle.std.proofs.lemmas.Bool.{cond-false, ne_eqb}
use Rattle.std.proofs.Math.Nat.{mod-add-div'}
use Rattle.lanes.specs.declared.sides.Side.{Side}
use Rattle.lanes.specs.declared.sides.Side.TheVariants.{Target, Host}
use Rattle.lanes.specs.Sides.{sides, side_number, side_at}
use Rattle.lanes.proofs.SideNumbers.{side-back}
use Rattle.graph.specs.declared.graph_words.WordCounts.{WordCounts}
use Rattle.graph.specs.declared.items.LocalItem.{LocalItem}
use Rattle.graph.specs.declared.items.LocalItem.TheVariants.{Unit, Dependency, Feature}
use Rattle.graph.specs.Words.{local_items}
use Rattle.graph.specs.Items.{first_item, item_on, side_of, local_number, local_item, item_from, item_at}

-- an item of a side is found again from its number
pub item-low : (n : ℕ) (s : Side) (l : ℕ) → l < n → item_on n s l < sides * n
item-low n Target l h = omega arith
item-low n Host l h = omega arith

pub item-side : (n : ℕ) (s : Side) (l : ℕ) → l < n → side_of n (item_on n s l) ≡ Some s
item-side n s l h =
    cond-false (eqb n 0) None (side_at (item_on n s l / n)) (ne_eqb n 0 (λ z. omega arith))
    ∙ ap side_at (digits_div (side_number s) h) ∙ (side-back s).1

side-numbered : (k : ℕ) (s : Side) → side_at k ≡ Some s → side_number s ≡ k
side-numbered k s h = grind arith

-- the side of a number begins at or before it
pub side-from : (n i : ℕ) (s : Side) → side_of n i ≡ Some s → first_item n s ≤ i
side-from n i s h = grind (arith, side-numbered, mod-add-div')

-- the local number of what has a local number
pub local-back : (c : WordCounts) (i : ℕ) (x : LocalItem) → local_item c i ≡ Some x → local_number c x ≡ Some i
local-back c i (Unit p) h = grind arith
local-back c i (Dependency d) h = grind arith
local-back c i (Feature f) h = grind arith

pub number-low : (c : WordCounts) (x : LocalItem) (i : ℕ) → local_number c x ≡ Some i → i < local_items c
number-low c (Unit p) i h = grind arith
number-low c (Dependency p) i h = grind arith
number-low c (Feature p) i h = grind arith

pub number-local : (c : WordCounts) (x : LocalItem) (i : ℕ) → local_number c x ≡ Some i → local_item c i ≡ Some x
number-local c (Unit p) i h = grind arith
number-local c (Dependency p) i h = grind arith
number-local c (Feature p) i h = grind arith

-- an item is that of its number
pub number-item : (c : WordCounts) (s : Side) (x : LocalItem) (i : ℕ) → local_number c x ≡ Some i → item_at c (first_item (local_items c) s + i) ≡ Some (record { side = s; local = x })
number-item c s x i h =
    let n : ℕ = local_items c in
    let z : first_item n s + i - first_item n s ≡ i = omega arith in
    ap (item_from c (first_item n s + i)) (item-side n s i (number-low c x i h))
    ∙ ap (λ (k : ℕ). option_map (λ (l : LocalItem). record { side = s; local = l }) (local_item c k)) z
    ∙ ap (option_map (λ (l : LocalItem). record { side = s; local = l })) (number-local c x i h)
