-- The law of sessions, as far as it is about one rulebook.
use Rattle.std.specs.Prelude.{◌≡◌, ℕ, zero, suc, ◌+◌, ◌*◌, ◌<◌, ◌≤◌, if◌then◌else◌, IsTrue, List, take, is_some, Ok, Some, Option, slice_get}
use Rattle.rulebook.specs.declared.entries.WatchEntry.{WatchEntry}
use Rattle.rulebook.specs.Tables.{Table}
use Rattle.session.specs.declared.calls.Answer.{Answer}
use Rattle.session.specs.declared.calls.Answer.TheVariants as answer
use Rattle.session.specs.declared.calls.Outcome.TheVariants.{Settled, Pending}
use Rattle.session.specs.declared.trail.TrailRecord.{TrailRecord}
use Rattle.session.specs.Trails.{active}
use Rattle.session.specs.States.{State, empty}
use Rattle.session.specs.Least.{Least}
use Rattle.session.specs.Causes.{Because}
use Rattle.session.specs.Histories.{Call, answers_from, History, history}

abbrev pub Active : History → ℕ → Type 0
Active h i = IsTrue (active h.state.trail i)

-- how many of the first rows have an entry; the watch entries of an item, over all rows
abbrev pub entries_below : (ℕ → Option WatchEntry) → ℕ → ℕ
entries_below entry zero = 0
entries_below entry (suc r) = entries_below entry r + (if is_some (entry r) then 1 else 0)

abbrev pub entries : Table → ℕ → ℕ
entries t i = entries_below (t.entry i) t.rows

-- the sum of a weight over the active items below n
abbrev pub sum_active : (ℕ → ℕ) → List TrailRecord → ℕ → ℕ
sum_active w t zero = 0
sum_active w t (suc n) = sum_active w t n + (if active t n then w n else 0)

-- the watch entries of the active items
abbrev pub watch_entries : Table → State → ℕ
watch_entries t s = sum_active (entries t) s.trail t.items

-- the step sum after a call, by what it answered: with nothing pending it is the number of watch entries of the active
-- items, with something pending it is less; any other answer says nothing of it
abbrev pub Counted : Table → History → Answer → Type 0
Counted t h (answer.Settle (Ok (Settled n))) = h.steps ≡ watch_entries t h.state
Counted t h (answer.Settle (Ok Pending)) = h.steps < watch_entries t h.state
Counted t h _ = Unit {0}

-- after some calls on a new session with n items:
pub record SessionLaw (t : Table) (n : ℕ) (calls : List Call) : Type 0 where
  -- an active item is in the least set of the accepted requests,
  pub sound : (i : ℕ) → Active (history t n calls) i → Least t (history t n calls).accepted i
  -- and while the session is settled, each item of that set is active;
  pub complete : IsTrue (history t n calls).settled → (i : ℕ) → Least t (history t n calls).accepted i → Active (history t n calls) i
  -- after each of the calls, its answer tells of the step sum so far;
  pub counted : (k : ℕ) (a : Answer) → slice_get (answers_from (empty n) t calls) k ≡ Some a → Counted t (history t n (take (k + 1) calls)) a
  -- the causes of each trail record are what made its item active;
  pub reasons : (k : ℕ) (r : TrailRecord) → slice_get (history t n calls).state.trail k ≡ Some r → Because t (history t n calls).state.trail (history t n calls).accepted k r
  -- and there are never more steps than the table has places for entries
  pub bounded : (history t n calls).steps ≤ t.items * t.rows
