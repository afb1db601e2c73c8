-- The index that finds features, or dependencies, by package and name: lists of entries, one for each bucket.
use Rattle.std.specs.Prelude.{◌≡◌, ℕ, zero, suc, ◌+◌, ◌*◌, ◌%◌, ◌<◌, Bool, true, false, cond, nat_le, ◌&&◌, List, [], map, length, take, Some, None, Option, slice_index_or}
use Rattle.std.specs.List.{fold}
use Rattle.graph.specs.declared.index.IndexEntry.{IndexEntry}
use Rattle.graph.specs.declared.index.Key as code
use Rattle.graph.specs.Keys.{Key, is_key}
use Rattle.graph.specs.Limits.{max_features}

-- how many buckets there are, and what the hash is multiplied by at each byte of a name
abbrev pub buckets : ℕ
buckets = 32749

abbrev pub factor : ℕ
factor = 263

-- the bucket of a key
abbrev pub hash_step : ℕ → ℕ → ℕ
hash_step h b = (h * factor + b) % buckets

abbrev pub bucket_of : ℕ → List ℕ → ℕ
bucket_of owner name = fold hash_step (owner % buckets) name

-- a key of the code
abbrev pub key_view : code.Key → Key
key_view k = record { owner = k.owner; name = k.name.now }

abbrev pub key_of : IndexEntry → Key
key_of e = record { owner = e.owner; name = e.name.now }

abbrev pub blank : IndexEntry
blank = record { name = record { ref_ptr = (0, 0); now = [] }; owner = 0; next = None }

abbrev pub entry_at : List IndexEntry → ℕ → IndexEntry
entry_at entries k = slice_index_or entries k blank

abbrev pub keys_of : List IndexEntry → ℕ → List Key
keys_of entries n = map key_of (take n entries)

abbrev pub bucket_at : List IndexEntry → ℕ → ℕ
bucket_at entries k = bucket_of (key_of (entry_at entries k)).owner (key_of (entry_at entries k)).name

-- one past a number, and 0 for none
abbrev pub past : Option ℕ → ℕ
past None = 0
past (Some k) = k + 1

abbrev pub head_of : List (Option ℕ) → ℕ → Option ℕ
head_of heads h = slice_index_or heads h None

-- The lists of the buckets are whole: of the first n entries,
pub record Linked (entries : List IndexEntry) (heads : List (Option ℕ)) (n : ℕ) : Type 0 where
  pub full : length entries ≡ max_features
  -- none is newer than the head of its bucket, which is one of that bucket;
  pub newest : (k : ℕ) → k < n → k < past (head_of heads (bucket_at entries k))
  pub headed : (h k : ℕ) → head_of heads h ≡ Some k → (k < n) × (bucket_at entries k ≡ h)
  -- none of its bucket stands between one and the next one, which is older and of that bucket
  pub between : (j k : ℕ) → j < k → k < n → bucket_at entries j ≡ bucket_at entries k → j < past (entry_at entries k).next
  pub nexted : (k j : ℕ) → k < n → (entry_at entries k).next ≡ Some j → (j < k) × (bucket_at entries j ≡ bucket_at entries k)

-- the newest of the first n entries that has a key
abbrev pub newest_of : List IndexEntry → ℕ → List ℕ → ℕ → Option ℕ
newest_of entries owner name zero = None
newest_of entries owner name (suc n) = cond (is_key owner name (key_of (entry_at entries n))) (Some n) (newest_of entries owner name n)

-- whether a list has more than so many entries, from one of them on, before it comes to one of the first `high`
abbrev pub is_far : List IndexEntry → ℕ → Option ℕ → ℕ → Bool
is_far entries high None n = false
is_far entries high (Some k) zero = nat_le high k
is_far entries high (Some k) (suc n) = nat_le high k && is_far entries high (entry_at entries k).next n

-- entry k, one of the first n, has a key; and an entry, if any, is one of the bucket of a key
abbrev pub IsEntry : List IndexEntry → ℕ → ℕ → List ℕ → ℕ → Type 0
IsEntry entries n owner name k = (k < n) × (is_key owner name (key_of (entry_at entries k)) ≡ true)

abbrev pub InBucket : List IndexEntry → ℕ → ℕ → List ℕ → Option ℕ → Type 0
InBucket entries n owner name None = Unit {0}
InBucket entries n owner name (Some k) = (k < n) × (bucket_at entries k ≡ bucket_of owner name)
