-- Why items are on a trail.
use Rattle.std.specs.Prelude.{◌≡◌, ℕ, ◌<◌, List, Some, None, slice_index_or, Contains}
use Rattle.rulebook.specs.Tables.{Table, pair}
use Rattle.session.specs.declared.trail.TrailRecord.{TrailRecord}
use Rattle.session.specs.Trails.{no_record}

-- the item at a trail number
abbrev pub item_at : List TrailRecord → ℕ → ℕ
item_at trail k = (slice_index_or trail k no_record).item

-- why a record stands at trail number k, if these items were asked for
pub data Because (t : Table) (trail : List TrailRecord) (asked : List ℕ) (k : ℕ) : TrailRecord → Type 0 where
  -- it has no causes, and its item was asked for;
  asked_for : {r : TrailRecord} → r.first ≡ None → r.second ≡ None → Contains asked r.item → Because t trail asked k r
  -- or one, and an entry of the older item there has no partner and this conclusion;
  by_one : {r : TrailRecord} {c row : ℕ} → r.first ≡ Some c → r.second ≡ None → c < k →
      t.entry (item_at trail c) row ≡ Some (record { partner = None; conclusion = r.item }) → Because t trail asked k r
  -- or two, and an entry of the older item at the first has as partner the older item at the second, and this conclusion
  by_two : {r : TrailRecord} {c d row : ℕ} → r.first ≡ Some c → r.second ≡ Some d → c < k → d < k →
      t.entry (item_at trail c) row ≡ Some (pair (item_at trail d) r.item) → Because t trail asked k r
