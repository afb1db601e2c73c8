-- Trails: the active items in the order in which they became so.
use Rattle.std.specs.Prelude.{◌≡◌, ℕ, ◌+◌, ◌<◌, Bool, true, if◌then◌else◌, List, [], ◌∷◌, length, Some, None, Option, option_map, ◌==◌, ◌≢◌, slice_index_or}
use Rattle.std.specs.List.{list_any}
use Rattle.session.specs.declared.trail.TrailRecord.{TrailRecord}

-- the record of an item that was requested, and of one that an entry concluded: by trail number, the item whose entry it is
-- and the partner in it, if there is one
abbrev pub request_record : ℕ → TrailRecord
request_record i = record { item = i; first = None; second = None }

abbrev pub conclusion_record : ℕ → ℕ → Option ℕ → TrailRecord
conclusion_record i first second = record { item = i; first = Some first; second = second }

-- an item is active if it is on the trail
abbrev pub active : List TrailRecord → ℕ → Bool
active t i = list_any (λ r. r.item == i) t

-- the trail number of an item
abbrev pub find : List TrailRecord → ℕ → Option ℕ
find [] i = None
find (r ∷ t) i = if r.item == i then Some 0 else option_map (λ k. k + 1) (find t i)

-- a partner, if there is one, is active; and its trail number
abbrev pub grants : List TrailRecord → Option ℕ → Bool
grants t None = true
grants t (Some i) = active t i

abbrev pub cause_of : List TrailRecord → Option ℕ → Option ℕ
cause_of t None = None
cause_of t (Some i) = find t i

-- What every trail keeps, with n items and marks for them.

abbrev pub no_record : TrailRecord
no_record = request_record 0

-- its items are below n and differ
abbrev pub Below : ℕ → List TrailRecord → Type 0
Below n t = (k : ℕ) → k < length t → (slice_index_or t k no_record).item < n

abbrev pub Apart : List TrailRecord → Type 0
Apart t = (j k : ℕ) → j < k → k < length t → (slice_index_or t j no_record).item ≢ (slice_index_or t k no_record).item

-- each item's mark is its trail number, or none
abbrev pub Marked : ℕ → List TrailRecord → List (Option ℕ) → Type 0
Marked n t marks = (i : ℕ) → i < n → slice_index_or marks i None ≡ find t i

-- causes are older than what they caused
abbrev pub FirstOlder : List TrailRecord → Type 0
FirstOlder t = (k c : ℕ) → k < length t → (slice_index_or t k no_record).first ≡ Some c → c < k

abbrev pub SecondOlder : List TrailRecord → Type 0
SecondOlder t = (k c : ℕ) → k < length t → (slice_index_or t k no_record).second ≡ Some c → c < k
