-- Searches in the lists of an index, and one entry more in them.
use Rattle.std.proofs.Common.{◌≡◌, ℕ, zero, suc, ◌+◌, ◌-◌, ◌<◌, ◌≤◌, Bool, true, false, cond, eqb, ◌⊎◌, List, [], ◌∷◌, length, get_or, take, set, replicate, is_some, Some, None, Option, sym, refl, ap, ◌∙◌, subst, inl, inr, ⊎_elim, arith}
use Rattle.std.proofs.lemmas.Slice.Eq.{bytes_eq-Decides}
use Rattle.std.proofs.lemmas.Option.{none-some, same_Some}
use Rattle.std.proofs.lemmas.List.{length-replicate, get_or-set_same, get_or-set_other, length-set, length-map, length-take-le, get_or-map, get_or-take}
use Rattle.std.proofs.lemmas.Bool.{cond-true, cond-false, eqb-true, and_parts, cases_Bool, cases_eq, cases_lt, or_from, or_left, or_right}
use Rattle.std.specs.Str.{bytes_eq}
use Rattle.graph.specs.declared.index.IndexEntry.{IndexEntry}
use Rattle.graph.specs.Keys.{Key, is_key, has_key}
use Rattle.graph.specs.Buckets.{bucket_of, key_of, blank, entry_at, keys_of, bucket_at, past, Linked, newest_of, IsEntry, InBucket}
use Rattle.graph.specs.Limits.{max_features}

-- at any place, where the library's `get_or-replicate` asks for one inside
pub nones : (n h : ℕ) → ◌≡◌ {A = Option ℕ} (get_or (replicate n None) h None) None
nones zero h = refl
nones (suc n) zero = refl
nones (suc n) (suc h) = nones n h

-- the lists of no entries, which are blank entries
pub linked-none : (m : ℕ) (e : IndexEntry) (heads : List (Option ℕ)) → m ≡ max_features → ((h : ℕ) → get_or heads h None ≡ None) → Linked (replicate m e) heads 0
linked-none m e heads f z = record {
  full = length-replicate m e ∙ f;
  newest = λ k l. absurd (omega arith);
  headed = λ h k q. absurd (none-some k (sym (z h) ∙ q));
  between = λ j k l m e. absurd (omega arith);
  nexted = λ k j l. absurd (omega arith);
}

-- entries of one package and name are in one bucket
pub key-bucket : (owner : ℕ) (name : List ℕ) (k : Key) → is_key owner name k ≡ true → bucket_of k.owner k.name ≡ bucket_of owner name
key-bucket owner name k e =
    let h = and_parts (eqb k.owner owner) (bytes_eq k.name name) e in
    let o : k.owner ≡ owner = eqb-true k.owner owner h.0 in
    let n : k.name ≡ name = (bytes_eq-Decides k.name name).0 h.1 in
    λ i. bucket_of (o i) (n i)

-- what a search among the first n entries finds
abbrev pub Finds : List IndexEntry → ℕ → ℕ → List ℕ → Option ℕ → Type 0
Finds entries n owner name None = (k : ℕ) → k < n → is_key owner name (key_of (entry_at entries k)) ≡ false
Finds entries n owner name (Some k) = IsEntry entries n owner name k

-- a number less than k, or none, is past by k at most
past-below : (o : Option ℕ) (k : ℕ) → ((j : ℕ) → o ≡ Some j → j < k) → past o ≤ k
past-below None k f = omega arith
past-below (Some j) k f = omega (arith, f j refl)

module _ (entries : List IndexEntry) (owner : ℕ) (name : List ℕ) where
  -- whether entry k has the key
  abbrev here : ℕ → Bool
  here k = is_key owner name (key_of (entry_at entries k))

  pub not-here : (k : ℕ) → (here k ≡ true → ⊥) → here k ≡ false
  not-here k f = ⊎_elim (λ (e : here k ≡ true). absurd (f e)) (λ (e : here k ≡ false). e) (cases_Bool (here k))

  newest-finds : (n : ℕ) → Finds entries n owner name (newest_of entries owner name n)
  newest-finds zero = λ k l. absurd (omega arith)
  newest-finds (suc n) = go (here n) refl (newest_of entries owner name n) (newest-finds n)
    where
      go : (b : Bool) → here n ≡ b → (o : Option ℕ) → Finds entries n owner name o → Finds entries (suc n) owner name (cond b (Some n) o)
      go true q o f = (omega arith, q)
      go false q None f = λ k l. ⊎_elim (λ (w : k < n). f k w) (λ (w : n ≤ k). let z : k ≡ n = omega arith in ap here z ∙ q) (cases_lt k n)
      go false q (Some k) f = (omega (arith, f.0), f.1)

  pub found : (n : ℕ) (o : Option ℕ) → o ≡ newest_of entries owner name n → Finds entries n owner name o
  found n o e = subst (Finds entries n owner name) (sym e) (newest-finds n)

  -- entries of other keys are passed over
  skips : (lo m : ℕ) → ((k : ℕ) → lo ≤ k → k < lo + m → here k ≡ false) → newest_of entries owner name (lo + m) ≡ newest_of entries owner name lo
  skips lo zero h = let z : lo + 0 ≡ lo = omega arith in ap (newest_of entries owner name) z
  skips lo (suc m) h =
      let z : lo + suc m ≡ suc (lo + m) = omega arith in
      ap (newest_of entries owner name) z ∙ cond-false _ _ _ (h (lo + m) (omega arith) (omega arith)) ∙ skips lo m (λ k l u. h k l (omega arith))

  pub skips-to : (lo hi : ℕ) → lo ≤ hi → ((k : ℕ) → lo ≤ k → k < hi → here k ≡ false) → newest_of entries owner name lo ≡ newest_of entries owner name hi
  skips-to lo hi l h =
      let z : lo + (hi - lo) ≡ hi = omega arith in
      sym (skips lo (hi - lo) (λ k a b. h k a (omega arith))) ∙ ap (newest_of entries owner name) z

module _ (entries : List IndexEntry) (heads : List (Option ℕ)) (n : ℕ) (linked : Linked entries heads n) (owner : ℕ) (name : List ℕ) where
  -- a search begins at the head of the bucket
  pub head-in : (b : ℕ) → b ≡ bucket_of owner name → InBucket entries n owner name (get_or heads b None)
  head-in b e = go (get_or heads b None) refl
    where
      go : (o : Option ℕ) → get_or heads b None ≡ o → InBucket entries n owner name o
      go None q = tt
      go (Some k) q = ((linked.headed b k q).0, (linked.headed b k q).1 ∙ e)

  pub head-newest : (b : ℕ) → b ≡ bucket_of owner name → newest_of entries owner name (past (get_or heads b None)) ≡ newest_of entries owner name n
  head-newest b e = skips-to entries owner name _ n (past-below (get_or heads b None) n (λ j q. (linked.headed b j q).0)) (λ k l m. not-here entries owner name k (λ t.
      let q : bucket_at entries k ≡ b = key-bucket owner name (key_of (entry_at entries k)) t ∙ sym e in
      let h : k < past (get_or heads b None) = subst (λ x. k < past (get_or heads x None)) q (linked.newest k m) in
      omega arith))

  -- and goes on with the next older one
  module _ (k : ℕ) (m : k < n) (mine : bucket_at entries k ≡ bucket_of owner name) where
    pub next-in : InBucket entries n owner name (entry_at entries k).next
    next-in = go (entry_at entries k).next refl
      where
        go : (o : Option ℕ) → (entry_at entries k).next ≡ o → InBucket entries n owner name o
        go None q = tt
        go (Some j) q = (omega (arith, (linked.nexted k j m q).0), (linked.nexted k j m q).1 ∙ mine)

    -- which is nearer to the end
    pub next-nears : past (entry_at entries k).next ≤ k
    next-nears = past-below (entry_at entries k).next k (λ j q. (linked.nexted k j m q).0)

    pub next-newest : newest_of entries owner name (past (entry_at entries k).next) ≡ newest_of entries owner name k
    next-newest = skips-to entries owner name _ k next-nears (λ j l d. not-here entries owner name j (λ t.
        let u : bucket_at entries j ≡ bucket_at entries k = key-bucket owner name (key_of (entry_at entries j)) t ∙ sym mine in
        let o : j < past (entry_at entries k).next = linked.between j k d m u in
        omega arith))

  -- one turn of a search that looks at entry k
  module _ (at : Option ℕ) (k : ℕ) (is : at ≡ Some k) (own : InBucket entries n owner name at) where
    pub at-entry : (k < n) × (bucket_at entries k ≡ bucket_of owner name)
    at-entry = subst (InBucket entries n owner name) is own

    pub search-nears : past (entry_at entries k).next < past at
    search-nears = omega (arith, ap past is, next-nears k at-entry.0 at-entry.1)

    -- what it finds from there on
    more : newest_of entries owner name (past at) ≡ cond (here entries owner name k) (Some k) (newest_of entries owner name k)
    more = let z : past at ≡ suc k = omega (arith, ap past is) in ap (newest_of entries owner name) z

    pub search-ends : (all : Option ℕ) → newest_of entries owner name (past at) ≡ all → here entries owner name k ≡ true → Some k ≡ all
    search-ends all e t = sym (cond-true _ _ _ t) ∙ sym more ∙ e

    pub search-goes : (all : Option ℕ) → newest_of entries owner name (past at) ≡ all → here entries owner name k ≡ false → InBucket entries n owner name (entry_at entries k).next × (newest_of entries owner name (past (entry_at entries k).next) ≡ all)
    search-goes all e f = (next-in k at-entry.0 at-entry.1, next-newest k at-entry.0 at-entry.1 ∙ sym (cond-false _ _ _ f) ∙ sym more ∙ e)

-- one entry more
module _ (entries : List IndexEntry) (heads : List (Option ℕ)) (n : ℕ) (linked : Linked entries heads n) (e : IndexEntry) (h : ℕ)
    (room : n < length entries) (among : h < length heads) (mine : h ≡ bucket_of (key_of e).owner (key_of e).name)
    (onward : e.next ≡ get_or heads h None) where
  new-entry : entry_at (set entries n e) n ≡ e
  new-entry = get_or-set_same entries n e blank room

  old-entry : (k : ℕ) → k < n → entry_at (set entries n e) k ≡ entry_at entries k
  old-entry k l = get_or-set_other entries n k e blank (λ q. omega arith)

  new-bucket : bucket_at (set entries n e) n ≡ h
  new-bucket = ap (λ x. bucket_of (key_of x).owner (key_of x).name) new-entry ∙ sym mine

  old-bucket : (k : ℕ) → k < n → bucket_at (set entries n e) k ≡ bucket_at entries k
  old-bucket k l = ap (λ x. bucket_of (key_of x).owner (key_of x).name) (old-entry k l)

  new-head : (x : ℕ) → x ≡ h → get_or (set heads h (Some n)) x None ≡ Some n
  new-head x q = ap (λ y. get_or (set heads h (Some n)) y None) q ∙ get_or-set_same heads h (Some n) None among

  old-head : (x : ℕ) → (x ≡ h → ⊥) → get_or (set heads h (Some n)) x None ≡ get_or heads x None
  old-head x q = get_or-set_other heads h x (Some n) None q

  -- the newest one, or an older one
  either : (k : ℕ) → k < n + 1 → (k ≡ n) ⊎ (k < n)
  either k l = ⊎_elim (λ (q : k < n). inr q) (λ (q : n ≤ k). inl (omega arith)) (cases_lt k n)

  more-newest : (k : ℕ) → k < n + 1 → k < past (get_or (set heads h (Some n)) (bucket_at (set entries n e) k) None)
  more-newest k l = ⊎_elim
      (λ (q : k ≡ n). omega (arith, ap past (new-head (bucket_at (set entries n e) k) (ap (bucket_at (set entries n e)) q ∙ new-bucket))))
      (λ (q : k < n). ⊎_elim
      (λ (r : bucket_at (set entries n e) k ≡ h). omega (arith, ap past (new-head (bucket_at (set entries n e) k) r)))
      (λ (r : bucket_at (set entries n e) k ≡ h → ⊥).
      let o : get_or (set heads h (Some n)) (bucket_at (set entries n e) k) None ≡ get_or heads (bucket_at entries k) None = old-head (bucket_at (set entries n e) k) r ∙ ap (λ x. get_or heads x None) (old-bucket k q) in
      subst (λ x. k < past x) (sym o) (linked.newest k q))
      (cases_eq (bucket_at (set entries n e) k) h))
      (either k l)

  more-headed : (x k : ℕ) → get_or (set heads h (Some n)) x None ≡ Some k → (k < n + 1) × (bucket_at (set entries n e) k ≡ x)
  more-headed x k z = ⊎_elim
      (λ (q : x ≡ h).
      let m : k ≡ n = same_Some k n (sym z ∙ new-head x q) in
      (omega arith, ap (bucket_at (set entries n e)) m ∙ new-bucket ∙ sym q))
      (λ (q : x ≡ h → ⊥).
      let o = linked.headed x k (sym (old-head x q) ∙ z) in
      (omega (arith, o.0), old-bucket k o.0 ∙ o.1))
      (cases_eq x h)

  -- what comes next after the newest one, and after an older one
  next-new : (k : ℕ) → k ≡ n → (entry_at (set entries n e) k).next ≡ get_or heads h None
  next-new k q = ap (λ x. x.next) (ap (entry_at (set entries n e)) q ∙ new-entry) ∙ onward

  next-old : (k : ℕ) → k < n → (entry_at (set entries n e) k).next ≡ (entry_at entries k).next
  next-old k q = ap (λ x. x.next) (old-entry k q)

  more-between : (j k : ℕ) → j < k → k < n + 1 → bucket_at (set entries n e) j ≡ bucket_at (set entries n e) k → j < past (entry_at (set entries n e) k).next
  more-between j k d l s = ⊎_elim
      (λ (q : k ≡ n).
      let b : bucket_at entries j ≡ h = sym (old-bucket j (omega arith)) ∙ s ∙ ap (bucket_at (set entries n e)) q ∙ new-bucket in
      let o : j < past (get_or heads h None) = subst (λ x. j < past (get_or heads x None)) b (linked.newest j (omega arith)) in
      subst (λ x. j < past x) (sym (next-new k q)) o)
      (λ (q : k < n).
      let b : bucket_at entries j ≡ bucket_at entries k = sym (old-bucket j (omega arith)) ∙ s ∙ old-bucket k q in
      subst (λ x. j < past x) (sym (next-old k q)) (linked.between j k d q b))
      (either k l)

  more-nexted : (k j : ℕ) → k < n + 1 → (entry_at (set entries n e) k).next ≡ Some j → (j < k) × (bucket_at (set entries n e) j ≡ bucket_at (set entries n e) k)
  more-nexted k j l z = ⊎_elim
      (λ (q : k ≡ n).
      let o = linked.headed h j (sym (next-new k q) ∙ z) in
      (omega (arith, o.0), old-bucket j o.0 ∙ o.1 ∙ sym (ap (bucket_at (set entries n e)) q ∙ new-bucket)))
      (λ (q : k < n).
      let o = linked.nexted k j q (sym (next-old k q) ∙ z) in
      (o.0, old-bucket j (omega (arith, o.0)) ∙ o.1 ∙ sym (old-bucket k q)))
      (either k l)

  pub linked-more : Linked (set entries n e) (set heads h (Some n)) (n + 1)
  linked-more = record { full = length-set entries n e ∙ linked.full; newest = more-newest; headed = more-headed; between = more-between; nexted = more-nexted }

-- a key among some
has-none : (owner : ℕ) (name : List ℕ) (ks : List Key) (d : Key) → ((k : ℕ) → k < length ks → is_key owner name (get_or ks k d) ≡ false) → has_key owner name ks ≡ false
has-none owner name [] d f = refl
has-none owner name (x ∷ ks) d f = or_from (is_key owner name x) (has_key owner name ks) (f 0 (omega arith)) (has-none owner name ks d (λ k l. f (suc k) (omega arith)))

has_some : (owner : ℕ) (name : List ℕ) (ks : List Key) (d : Key) (k : ℕ) → k < length ks → is_key owner name (get_or ks k d) ≡ true → has_key owner name ks ≡ true
has_some owner name [] d k l e = absurd (omega arith)
has_some owner name (x ∷ ks) d zero l e = or_left (is_key owner name x) (has_key owner name ks) e
has_some owner name (x ∷ ks) d (suc k) l e = or_right (is_key owner name x) (has_key owner name ks) (has_some owner name ks d k (omega arith) e)

pub keys_length : (entries : List IndexEntry) (n : ℕ) → n ≤ length entries → length (keys_of entries n) ≡ n
keys_length entries n l = length-map (take n entries) key_of ∙ length-take-le n entries l

pub keys-at : (entries : List IndexEntry) (n k : ℕ) → n ≤ length entries → k < n → get_or (keys_of entries n) k (key_of blank) ≡ key_of (entry_at entries k)
keys-at entries n k l m =
    let w : k < length (take n entries) = omega (arith, length-take-le n entries l) in
    get_or-map key_of (take n entries) k blank (key_of blank) w ∙ ap key_of (get_or-take n entries k blank m)

-- a search finds something exactly if there is a feature of that package and name
pub finds-has : (entries : List IndexEntry) (n owner : ℕ) (name : List ℕ) (r : Option ℕ) → n ≤ length entries → Finds entries n owner name r → is_some r ≡ has_key owner name (keys_of entries n)
finds-has entries n owner name None l f =
    sym (has-none owner name (keys_of entries n) (key_of blank) (λ k m.
    let w : k < n = omega (arith, keys_length entries n l) in
    ap (is_key owner name) (keys-at entries n k l w) ∙ f k w))
finds-has entries n owner name (Some k) l f =
    sym (has_some owner name (keys_of entries n) (key_of blank) k (omega (arith, keys_length entries n l, f.0)) (ap (is_key owner name) (keys-at entries n k l f.0) ∙ f.1))
