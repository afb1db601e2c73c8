-- What the calls on a session keep, and so every history.
use Rattle.std.proofs.Common.{◌≡◌, ℕ, ◌+◌, ◌<◌, Bool, true, false, cond, not, ◌&&◌, List, [], ◌∷◌, ◌++◌, drop, Some, None, Option, sym, refl, ap, ◌∙◌, subst, ⊎_elim, arith, append_assoc, append-nil, eqb-true, ltb-true, ltb, IfSome}
use Rattle.std.specs.Prelude.{IsTrue}
use Rattle.std.specs.List.{fold}
use Rattle.std.proofs.lemmas.Bool.{and_parts}
use Rattle.std.proofs.lemmas.List.{drop-append-le}
use Rattle.std.proofs.lemmas.List.Elements.{Contains-append_left, Contains-push, Contains-push_cases}
use Rattle.std.proofs.lemmas.Option.{IfSome_then}
use Rattle.rulebook.specs.declared.entries.RowEntry.{RowEntry}
use Rattle.rulebook.specs.Tables.{Table, Laws, seek}
use Rattle.session.specs.declared.trail.TrailRecord.{TrailRecord}
use Rattle.session.specs.Trails.{request_record, conclusion_record, active, grants, cause_of}
use Rattle.session.specs.States.{State, with_trail, with_position, move_on, request_one, request_all, all_below, take_entry, outcome_of, settle_run, fits}
use Rattle.session.specs.Histories.{Call, request, settle, active as active_call, reason, History, history}
use Rattle.session.proofs.Pasts.{begun, reported, after_request, after_settle, called, past-history}
use Rattle.session.proofs.Seeks.{seek-some}
use Rattle.session.proofs.TrailFacts.{Active, At, active-left, active-right, active-head, at-active}
use Rattle.session.proofs.ActiveSums.{sum_active-none}
use Rattle.session.proofs.Derivations.{given, derived_by, derived_mono}
use Rattle.session.proofs.SettleKeeps.{Ended, settled-keeps, reported-steps}
use Rattle.session.proofs.Invariant.{Core, Invariant, moved-core, row-core, push-core}

-- what every history of a session with n items keeps
pub record Kept (table : Table) (n : ℕ) (h : History) : Type 0 where
  pub invariant : Invariant table h.accepted h.steps h.state
  pub count : h.state.items ≡ n
  -- while it is settled, no trail item is left
  pub rests : IsTrue h.settled → drop h.state.position h.state.trail ≡ []

granted-from : (s : State) (b : Option ℕ) → IfSome b (Active s) → grants s.trail b ≡ true
granted-from s None h = refl
granted-from s (Some b) h = h

granted-some : (s : State) (b : Option ℕ) → grants s.trail b ≡ true → IfSome b (Active s)
granted-some s None h = tt
granted-some s (Some b) h = h

pub and_not_true : (a b : Bool) → (a && not b) ≡ true → (a ≡ true) × (b ≡ false)
and_not_true true true h = absurd (cc)
and_not_true true false h = (refl, refl)
and_not_true false b h = absurd (cc)

and_not_false : (a b : Bool) → (a && not b) ≡ false → a ≡ true → b ≡ true
and_not_false a true h x = refl
and_not_false true false h x = cc
and_not_false false false h x = cc

module _ (table : Table) (laws : Laws table) where
  -- settle is by a rulebook of the session's count
  abbrev Settles : List ℕ → ℕ → State → Type 0
  Settles asked k s = Invariant table asked k s × (table.items ≡ s.items)

  moved-keeps : (asked : List ℕ) (k : ℕ) (s : State) (x : TrailRecord) (xs : List TrailRecord) → At s x xs → seek table x.item s.row ≡ None →
      Settles asked k s → Settles asked k (move_on s)
  moved-keeps asked k s x xs d e v = (record { core = moved-core table laws asked k s x xs d e v.0.core; held = v.0.held }, v.1)

  taken-keeps : (asked : List ℕ) (k : ℕ) (s : State) (x : TrailRecord) (xs : List TrailRecord) (f : RowEntry) → At s x xs → seek table x.item s.row ≡ Some f →
      Settles asked k s → Settles asked (k + 1) (take_entry s f)
  taken-keeps asked k s x xs f d e v = go (grants s.trail f.entry.partner && not (active s.trail f.entry.conclusion)) refl
    where
      core : Core table asked k s
      core = v.0.core

      new : TrailRecord
      new = conclusion_record f.entry.conclusion s.position (cause_of s.trail f.entry.partner)

      go : (b : Bool) → (grants s.trail f.entry.partner && not (active s.trail f.entry.conclusion)) ≡ b →
          Settles asked (k + 1) (with_position (cond b (with_trail s (s.trail ++ new ∷ [])) s) s.position (f.row + 1))
      go true h =
          let t = and_not_true (grants s.trail f.entry.partner) (active s.trail f.entry.conclusion) h in
          let first = seek-some table x.item s.row f e in
          let derived = derived_by table asked x.item f.row f.entry.partner f.entry.conclusion first.here
          (core.sound x.item (at-active s x xs d))
          (IfSome_then f.entry.partner (granted-some s f.entry.partner t.0) core.sound) in
          let low : f.entry.conclusion < s.items = subst (λ m. f.entry.conclusion < m) v.1 (laws.below x.item f.row f.entry first.here).0 in
          let pushed = push-core table laws asked k s new derived t.1 low core in
          let ahead = drop-append-le s.position s.trail (new ∷ []) core.inside ∙ ap (λ l. l ++ new ∷ []) d in (
            record {
              core = row-core table laws asked k (with_trail s (s.trail ++ new ∷ [])) x (xs ++ new ∷ []) f ahead e
                  (λ _. active-right s.trail (new ∷ []) f.entry.conclusion (active-head new [])) pushed;
              held = λ i m. active-left s.trail (new ∷ []) i (v.0.held i m);
            },
            v.1,
          )
      go false h = (
        record {
          core = row-core table laws asked k s x xs f d e
              (λ a. and_not_false (grants s.trail f.entry.partner) (active s.trail f.entry.conclusion) h (granted-from s f.entry.partner a)) core;
          held = v.0.held;
        },
        v.1,
      )

  requested_one-keeps : (asked : List ℕ) (k : ℕ) (s : State) (i : ℕ) → i < s.items → Invariant table asked k s →
      Invariant table (asked ++ i ∷ []) k (request_one s i) × ((request_one s i).items ≡ s.items)
  requested_one-keeps asked k s i lt v = go (active s.trail i) refl
    where
      new : TrailRecord
      new = request_record i

      wide : Core table (asked ++ i ∷ []) k s
      wide = let c = v.core in record {
        inside = c.inside;
        fresh = c.fresh;
        low = c.low;
        sound = λ j h. derived_mono table asked (asked ++ i ∷ []) (Contains-append_left asked (i ∷ [])) j (c.sound j h);
        fired = c.fired;
        spent = c.spent;
        whole = c.whole;
      }

      go : (b : Bool) → active s.trail i ≡ b → let t = cond b s (with_trail s (s.trail ++ new ∷ [])) in Invariant table (asked ++ i ∷ []) k t × (t.items ≡ s.items)
      go true h = (
        record {
          core = wide;
          held = λ j m. ⊎_elim (v.held j) (λ u. subst (Active s) u h) (Contains-push_cases asked i j m);
        },
        refl,
      )
      go false h = (
        record {
          core = push-core table laws (asked ++ i ∷ []) k s new (given (Contains-push asked i)) h lt wide;
          held = λ j m. ⊎_elim
              (λ u. active-left s.trail (new ∷ []) j (v.held j u))
              (λ u. subst (λ l. IsTrue (active (s.trail ++ new ∷ []) l)) u (active-right s.trail (new ∷ []) i (active-head new [])))
              (Contains-push_cases asked i j m);
        },
        refl,
      )

  requested-keeps : (asked : List ℕ) (k : ℕ) (is : List ℕ) (s : State) → all_below s.items is ≡ true → Invariant table asked k s →
      Invariant table (asked ++ is) k (request_all s is) × ((request_all s is).items ≡ s.items)
  requested-keeps asked k [] s h v = (subst (λ l. Invariant table l k s) (sym (append-nil asked)) v, refl)
  requested-keeps asked k (i ∷ is) s h v =
      let w = and_parts (ltb i s.items) (all_below s.items is) h in
      let one = requested_one-keeps asked k s i (ltb-true i s.items w.0) v in
      let more = requested-keeps (asked ++ i ∷ []) k is (request_one s i) (ap (λ n. all_below n is) one.1 ∙ w.1) one.0 in
      (subst (λ l. Invariant table l k (request_all (request_one s i) is)) (append_assoc asked (i ∷ []) is) more.0, more.1 ∙ one.1)

  -- after an accepted settle
  pub settled-ends : (n : ℕ) (h : History) (b : ℕ) → Kept table n h → table.items ≡ h.state.items → let r = settle_run h.state table b in
      Settles h.accepted (h.steps + reported b (outcome_of r)) r.state × Ended table r.state r.pending
  settled-ends n h b kept same =
      let r = settle_run h.state table b in
      let ends = settled-keeps table (Settles h.accepted) (moved-keeps h.accepted) (taken-keeps h.accepted) b h.steps h.state (kept.invariant, same) in
      (subst (λ j. Settles h.accepted (h.steps + j) r.state) (sym (reported-steps table b h.state)) ends.0, ends.1)

  ended-rests : (s : State) (pending : Bool) → Ended table s pending → IsTrue (not pending) → drop s.position s.trail ≡ []
  ended-rests s true e h = cc
  ended-rests s false e h = e

  pub called-keeps : (n : ℕ) (h : History) (c : Call) → Kept table n h → Kept table n (called table h c)
  called-keeps n h (active_call i) kept = kept
  called-keeps n h (reason i) kept = kept
  called-keeps n h (settle b) kept = go (fits h.state table) refl
    where
      go : (t : Bool) → fits h.state table ≡ t → Kept table n (cond t (after_settle h b (settle_run h.state table b)) h)
      go false e = kept
      go true e =
          let r = settle_run h.state table b in
          let same : table.items ≡ h.state.items = eqb-true table.items h.state.items e in
          let ends = settled-ends n h b kept same in
          record { invariant = ends.0.0; count = sym ends.0.1 ∙ same ∙ kept.count; rests = ended-rests r.state r.pending ends.1 }
  called-keeps n h (request is) kept = go (all_below h.state.items is) refl
    where
      go : (t : Bool) → all_below h.state.items is ≡ t → Kept table n (cond t (after_request h is) h)
      go false e = kept
      go true e =
          let more = requested-keeps h.accepted h.steps is h.state e kept.invariant in
          record { invariant = more.0; count = more.1 ∙ kept.count; rests = λ (x : false ≡ true). cc }

  pub begun-kept : (n : ℕ) → Kept table n (begun n)
  begun-kept n = record {
    invariant = record {
      core = record {
        inside = omega arith;
        fresh = λ _. refl;
        low = omega arith;
        sound = λ i (h : false ≡ true). cc;
        fired = λ i r e q w a. ⊎_elim (λ (h : false ≡ true). cc) (λ h. absurd h.0) w;
        spent = refl;
        whole = λ w. sum_active-none w n;
      };
      held = λ i h. absurd (omega (arith, h.1));
    };
    count = refl;
    rests = λ (h : false ≡ true). cc;
  }

  calls-keep : (n : ℕ) (calls : List Call) (h : History) → Kept table n h → Kept table n (fold (called table) h calls)
  calls-keep n [] h kept = kept
  calls-keep n (c ∷ calls) h kept = calls-keep n calls (called table h c) (called-keeps n h c kept)

  pub history-kept : (n : ℕ) (calls : List Call) → Kept table n (history table n calls)
  history-kept n calls = subst (Kept table n) (past-history table n calls) (calls-keep n calls (begun n) (begun-kept n))
