-- Settling, turn by turn: what a loop over the worked place and the steps so far keeps.
use Rattle.std.proofs.Common.{◌≡◌, ℕ, zero, suc, ◌+◌, ◌-◌, ◌<◌, ◌≤◌, true, false, List, [], ◌∷◌, length, drop, Some, None, Option, sym, refl, ap, ◌∙◌, arith}
use Rattle.std.proofs.lemmas.List.{drop-drop, length-drop}
use Rattle.std.proofs.lemmas.Option.{none-some, same_Some}
use Rattle.rulebook.specs.declared.entries.RowEntry.{RowEntry}
use Rattle.rulebook.specs.Tables.{Table, seek}
use Rattle.session.specs.declared.trail.TrailRecord.{TrailRecord}
use Rattle.session.specs.States.{State, move_on, worked_item, item_of, take_entry, rest, or_next, next_among, next, Run, one_step_more, halt, step_once, settle_run}

-- k steps before a run
abbrev pub after : ℕ → Run → Run
after k r = record { state = r.state; steps = k + r.steps; pending = r.pending }

after-one : (k : ℕ) (r : Run) → after k (one_step_more r) ≡ after (k + 1) r
after-one k r = let z : k + (r.steps + 1) ≡ k + 1 + r.steps = omega arith in λ i. record { state = r.state; steps = z i; pending = r.pending }

-- from one place on, and from the next
drop-one : {A : Type 0} (k : ℕ) (xs : List A) (y : A) (ys : List A) → drop k xs ≡ y ∷ ys → drop (k + 1) xs ≡ ys
drop-one k xs y ys e = sym (drop-drop 1 k xs) ∙ ap (drop 1) e

-- a worked item is one of the trail
pub worked-within : (s : State) (i : ℕ) → worked_item s ≡ Some i → s.position < length s.trail
worked-within s i e = go (drop s.position s.trail) refl e
  where
    go : (rs : List TrailRecord) → drop s.position s.trail ≡ rs → item_of rs ≡ Some i → s.position < length s.trail
    go [] q h = absurd (none-some i h)
    go (r ∷ rs) q h = omega (arith, ap length q, length-drop s.position s.trail)

module _ (t : Table) where
  module _ (s : State) where
    -- the records from the worked place on
    abbrev ahead : List TrailRecord
    ahead = drop s.position s.trail

    -- with no trail item left
    at-rest : worked_item s ≡ None → (b : ℕ) → settle_run s t b ≡ record { state = s; steps = 0; pending = false }
    at-rest e b = go ahead refl e b
      where
        by : (b : ℕ) → next s t ≡ rest s → settle_run s t b ≡ record { state = s; steps = 0; pending = false }
        by zero q = ap halt q
        by (suc b) q = ap (step_once (λ u. settle_run u t b)) q

        go : (rs : List TrailRecord) → ahead ≡ rs → item_of ahead ≡ None → (b : ℕ) → settle_run s t b ≡ record { state = s; steps = 0; pending = false }
        go [] q e b = by b (ap (λ rs. next_among s t rs) q)
        go (r ∷ rs) q e b = absurd (none-some r.item (sym e ∙ ap item_of q))

    module _ (i : ℕ) (item : worked_item s ≡ Some i) where
      -- what seek answers of the worked item tells what is next
      next-by : (o : Option RowEntry) → seek t i s.row ≡ o → next s t ≡ or_next o s (next (move_on s) t)
      next-by o e = go ahead refl item
        where
          go : (rs : List TrailRecord) → ahead ≡ rs → item_of ahead ≡ Some i → next s t ≡ or_next o s (next (move_on s) t)
          go [] q h = absurd (none-some i (ap item_of (sym q) ∙ h))
          go (r ∷ rs) q h =
              let same : r.item ≡ i = same_Some r.item i (ap item_of (sym q) ∙ h) in
              let on : rs ≡ drop (s.position + 1) s.trail = sym (drop-one s.position s.trail r rs q) in
              ap (λ rs. next_among s t rs) q
              ∙ ap (λ x. or_next (seek t x s.row) s (next_among (move_on s) t rs)) same
              ∙ ap (λ p. or_next p s (next_among (move_on s) t rs)) e
              ∙ ap (λ xs. or_next o s (next_among (move_on s) t xs)) on

      -- where it answers none, the next trail item is worked
      on-move : seek t i s.row ≡ None → (b : ℕ) → settle_run s t b ≡ settle_run (move_on s) t b
      on-move e zero = ap halt (next-by None e)
      on-move e (suc b) = ap (step_once (λ u. settle_run u t b)) (next-by None e)

      module _ (f : RowEntry) (e : seek t i s.row ≡ Some f) where
        on-stop : settle_run s t 0 ≡ record { state = s; steps = 0; pending = true }
        on-stop = ap halt (next-by (Some f) e)

        on-take : (b : ℕ) → settle_run s t (suc b) ≡ one_step_more (settle_run (take_entry s f) t b)
        on-take b = ap (step_once (λ u. settle_run u t b)) (next-by (Some f) e)

  -- from where a run with a budget began, k steps led here, and the rest of the budget goes on from here
  abbrev pub Leads : ℕ → State → ℕ → State → Type 0
  Leads budget s k u = (k ≤ budget) × (settle_run s t budget ≡ after k (settle_run u t (budget - k)))

  pub lead-start : (budget : ℕ) (s : State) → Leads budget s 0 s
  lead-start budget s =
      let z : budget ≡ budget - 0 = omega arith in
      let y : (settle_run s t (budget - 0)).steps ≡ 0 + (settle_run s t (budget - 0)).steps = omega arith in
      (omega arith, ap (λ b. settle_run s t b) z ∙ (λ i. record { state = (settle_run s t (budget - 0)).state; steps = y i; pending = (settle_run s t (budget - 0)).pending }))

  module _ (budget : ℕ) (s : State) (k : ℕ) (u : State) (leads : Leads budget s k u) where
    pub lead-rest : worked_item u ≡ None → settle_run s t budget ≡ record { state = u; steps = k; pending = false }
    lead-rest e =
        let z : k + 0 ≡ k = omega arith in
        leads.1 ∙ ap (after k) (at-rest u e (budget - k)) ∙ (λ i. record { state = u; steps = z i; pending = false })

    module _ (i : ℕ) (item : worked_item u ≡ Some i) where
      pub lead-move : seek t i u.row ≡ None → Leads budget s k (move_on u)
      lead-move e = (leads.0, leads.1 ∙ ap (after k) (on-move u i item e (budget - k)))

      module _ (f : RowEntry) (e : seek t i u.row ≡ Some f) where
        pub lead-stop : k ≡ budget → settle_run s t budget ≡ record { state = u; steps = k; pending = true }
        lead-stop q =
            let z : budget - k ≡ 0 = omega arith in
            let y : k + 0 ≡ k = omega arith in
            leads.1 ∙ ap (λ b. after k (settle_run u t b)) z ∙ ap (after k) (on-stop u i item f e) ∙ (λ j. record { state = u; steps = y j; pending = true })

        pub lead-take : k < budget → Leads budget s (k + 1) (take_entry u f)
        lead-take l =
            let z : budget - k ≡ suc (budget - (k + 1)) = omega arith in
            (omega arith, leads.1 ∙ ap (λ b. after k (settle_run u t b)) z ∙ ap (after k) (on-take u i item f e (budget - (k + 1))) ∙ after-one k (settle_run (take_entry u f) t (budget - (k + 1))))
