-- What settle keeps: what is kept where the worked place moves on, and where an entry is taken.
use Rattle.std.proofs.Common.{◌≡◌, ℕ, zero, suc, ◌+◌, Bool, true, false, List, [], ◌∷◌, drop, Some, None, Option, sym, refl, ap, ◌∙◌, subst, arith, add-one}
use Rattle.rulebook.specs.declared.entries.RowEntry.{RowEntry}
use Rattle.rulebook.specs.Tables.{Table, seek}
use Rattle.session.specs.declared.trail.TrailRecord.{TrailRecord}
use Rattle.session.specs.States.{State, move_on, take_entry, Next, rest, due, or_next, next_among, next, Run, halt, step_once, settle_run, outcome_of}
use Rattle.session.proofs.Pasts.{reported}
use Rattle.session.proofs.TrailFacts.{At, drop_next}

-- f is the next entry to take
abbrev pub Due : Table → State → RowEntry → Type 0
Due table s f = (x : TrailRecord) × (xs : List TrailRecord) × At s x xs × (seek table x.item s.row ≡ Some f)

abbrev pub Reached : Table → (State → Type 0) → Next → Type 0
Reached table P (rest s) = P s × (drop s.position s.trail ≡ [])
Reached table P (due s f) = P s × Due table s f

-- no trail item is left, or an entry is due
abbrev pub Ended : Table → State → Bool → Type 0
Ended table s false = drop s.position s.trail ≡ []
Ended table s true = (f : RowEntry) × Due table s f

-- P says of a state what holds of it after so many steps
module _ (table : Table) (P : ℕ → State → Type 0)
    (moves : (k : ℕ) (s : State) (x : TrailRecord) (xs : List TrailRecord) → At s x xs → seek table x.item s.row ≡ None → P k s → P k (move_on s))
    (takes : (k : ℕ) (s : State) (x : TrailRecord) (xs : List TrailRecord) (f : RowEntry) → At s x xs → seek table x.item s.row ≡ Some f → P k s → P (k + 1) (take_entry s f)) where
  next-keeps : (k : ℕ) (t : List TrailRecord) (s : State) → drop s.position s.trail ≡ t → P k s → Reached table (P k) (next_among s table t)
  next-keeps k [] s d p = (p, d)
  next-keeps k (x ∷ t) s d p = go (seek table x.item s.row) refl (λ e. next-keeps k t (move_on s) (ap (λ j. drop j s.trail) (add-one s.position) ∙ drop_next s.position s.trail x t d) (moves k s x t d e p))
    where
      go : (o : Option RowEntry) → seek table x.item s.row ≡ o →
          (seek table x.item s.row ≡ None → Reached table (P k) (next_among (move_on s) table t)) →
          Reached table (P k) (or_next o s (next_among (move_on s) table t))
      go None e later = later e
      go (Some f) e later = (p, (x, t, d, e))

  abbrev pub Results : ℕ → Run → Type 0
  Results k r = P (k + r.steps) r.state × Ended table r.state r.pending

  pub settled-keeps : (b k : ℕ) (s : State) → P k s → Results k (settle_run s table b)
  settled-keeps zero k s p = go (next s table) (next-keeps k (drop s.position s.trail) s refl p)
    where
      go : (n : Next) → Reached table (P k) n → Results k (halt n)
      go (rest t) h = (let e : k ≡ k + 0 = omega arith in subst (λ j. P j t) e h.0, h.1)
      go (due t f) h = (let e : k ≡ k + 0 = omega arith in subst (λ j. P j t) e h.0, (f, h.1))
  settled-keeps (suc b) k s p = go (next s table) (next-keeps k (drop s.position s.trail) s refl p) (settled-keeps b (k + 1))
    where
      go : (n : Next) → Reached table (P k) n → ((t : State) → P (k + 1) t → Results (k + 1) (settle_run t table b)) → Results k (step_once (λ u. settle_run u table b) n)
      go (rest t) h more = (let e : k ≡ k + 0 = omega arith in subst (λ j. P j t) e h.0, h.1)
      go (due t f) h more =
          let r = settle_run (take_entry t f) table b in
          let m = more (take_entry t f) (takes k t h.1.0 h.1.1 f h.1.2 h.1.3 h.0) in
          (let e : k + 1 + r.steps ≡ k + (r.steps + 1) = omega arith in subst (λ j. P j r.state) e m.0, m.1)

-- only when the budget is spent something is pending
pub pending-spent : (table : Table) (b : ℕ) (s : State) → (settle_run s table b).pending ≡ true → (settle_run s table b).steps ≡ b
pending-spent table zero s h = go (next s table)
  where
    go : (n : Next) → (halt n).steps ≡ 0
    go (rest t) = refl
    go (due t f) = refl
pending-spent table (suc b) s h = go (next s table) h (pending-spent table b)
  where
    go : (n : Next) → (step_once (λ u. settle_run u table b) n).pending ≡ true →
        ((t : State) → (settle_run t table b).pending ≡ true → (settle_run t table b).steps ≡ b) → (step_once (λ u. settle_run u table b) n).steps ≡ suc b
    go (rest t) h more = cc
    go (due t f) h more = omega (arith, more _ h)

-- so the steps that are reported are those that were taken
pub reported-steps : (table : Table) (b : ℕ) (s : State) → reported b (outcome_of (settle_run s table b)) ≡ (settle_run s table b).steps
reported-steps table b s = go (settle_run s table b) (pending-spent table b s)
  where
    go : (r : Run) → (r.pending ≡ true → r.steps ≡ b) → reported b (outcome_of r) ≡ r.steps
    go r h = cases r.pending h
      where
        cases : (p : Bool) → (p ≡ true → r.steps ≡ b) → reported b (outcome_of (record { state = r.state; steps = r.steps; pending = p })) ≡ r.steps
        cases true h = sym (h refl)
        cases false h = refl
