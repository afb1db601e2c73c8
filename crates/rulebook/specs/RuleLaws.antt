-- A table of rules keeps the laws of tables, if its rules name items and their premises share them. This page is a
-- proof, which a reader need not believe: it stands here because code can import what proves a trait's law from specs/ alone.
use Rattle.std.specs.Prelude.{◌≡◌, ℕ, ◌<◌, ◌≤◌, Bool, true, false, cond, ◌⊎◌, Some, None, Option, ◌==◌, refl, IfSome}
use Rattle.std.proofs.Common.{sym, ap, ◌∙◌, subst, inl, inr, ⊎_elim, arith}
use Rattle.graph.specs.declared.rows.ItemRule.{ItemRule}
use Rattle.rulebook.specs.declared.entries.WatchEntry.{WatchEntry}
use Rattle.rulebook.specs.Tables.{Laws, pair, max_items, max_rows}
use Rattle.rulebook.specs.Watch.{is_item, watch_entry, entry_in, rule_table}

pub cond-some : {A : Type 0} (b : Bool) (o : Option A) (e : A) → cond b o None ≡ Some e → (b ≡ true) × (o ≡ Some e)
cond-some true o e h = (refl, h)
cond-some false o e h = absurd (cc h)

-- an item is a premise of a rule; the entry that it watches there
abbrev pub Premise : ItemRule → ℕ → Type 0
Premise ρ i = (ρ.from ≡ i) ⊎ (ρ.with ≡ Some i)

is-item : (m : Option ℕ) (i : ℕ) → is_item m i ≡ true → m ≡ Some i
is-item None i h = absurd (cc h)
is-item (Some j) i h = grind arith

-- which premise an entry is watched from
pub record Watches (ρ : ItemRule) (i : ℕ) (e : WatchEntry) : Type 0 where
  pub concludes : e.conclusion ≡ ρ.to
  pub by : ((ρ.from ≡ i) × (e.partner ≡ ρ.with)) ⊎ ((ρ.with ≡ Some i) × (e.partner ≡ Some ρ.from))

module _ (ρ : ItemRule) where
  pub watches : (i : ℕ) (e : WatchEntry) → watch_entry ρ i ≡ Some e → Watches ρ i e
  watches i e h = go (ρ.from == i) refl (is_item ρ.with i) refl h
    where
      go : (a : Bool) → (ρ.from == i) ≡ a → (b : Bool) → is_item ρ.with i ≡ b →
          cond a (Some (record { partner = ρ.with; conclusion = ρ.to })) (cond b (Some (pair ρ.from ρ.to)) None) ≡ Some e → Watches ρ i e
      go true p b q h = record { concludes = grind arith; by = inl (grind arith, grind arith) }
      go false p true q h = record { concludes = grind arith; by = inr (is-item ρ.with i q, grind arith) }
      go false p false q h = absurd (cc h)

  pub from-watches : watch_entry ρ ρ.from ≡ Some (record { partner = ρ.with; conclusion = ρ.to })
  from-watches = grind arith

  pub with-watches : (i : ℕ) → ρ.with ≡ Some i → watch_entry ρ i ≡ Some (pair ρ.from ρ.to)
  with-watches i h = grind arith

  -- a pair rule is watched from both premises
  pub watches-both : (a b c : ℕ) → Watches ρ a (pair b c) → Premise ρ b × (watch_entry ρ b ≡ Some (pair a c))
  watches-both a b c w = grind (arith, with-watches, from-watches, w.by, w.concludes)

pub record Known (items rows r : ℕ) (ρ : ItemRule) : Type 0 where
  pub row : r < rows
  pub from : ρ.from < items
  pub to : ρ.to < items
  pub with : IfSome ρ.with (λ b. b < items)

module _ (items rows : ℕ) (rule : ℕ → ℕ → Option ItemRule) where
  -- the rule that an entry is of
  pub record Source (i r : ℕ) (e : WatchEntry) : Type 0 where
    pub of : ItemRule
    pub is_rule : rule i r ≡ Some of
    pub watch : Watches of i e

  pub source : (i r : ℕ) (e : WatchEntry) → entry_in (rule i r) i ≡ Some e → Source i r e
  source i r e h = go (rule i r) refl h
    where
      go : (o : Option ItemRule) → rule i r ≡ o → entry_in o i ≡ Some e → Source i r e
      go None q h = absurd (cc h)
      go (Some ρ) q h = record { of = ρ; is_rule = q; watch = watches ρ i e h }

  premise : (i r : ℕ) (e : WatchEntry) (s : Source i r e) → Premise s.of i
  premise i r e s = ⊎_elim (λ z. inl z.0) (λ z. inr z.0) s.watch.by

  pub rule-laws : items ≤ max_items → rows ≤ max_rows →
      ((i r : ℕ) (ρ : ItemRule) → rule i r ≡ Some ρ → Known items rows r ρ) →
      ((i j r : ℕ) (ρ : ItemRule) → rule i r ≡ Some ρ → Premise ρ i → Premise ρ j → rule j r ≡ Some ρ) →
      Laws (rule_table items rows rule)
  rule-laws few fewer known shared = record {
    few_items = few;
    few_rows = fewer;
    within = λ i r e h. let s = source i r e h in let k = known i r s.of s.is_rule in (low s.of i k (premise i r e s), k.row);
    below = λ i r e h. let s = source i r e h in let k = known i r s.of s.is_rule in (
      subst (λ (c : ℕ). c < items) (sym s.watch.concludes) k.to,
      ⊎_elim (λ z. subst (λ o. IfSome o (λ b. b < items)) (sym z.1) k.with) (λ z. subst (λ o. IfSome o (λ b. b < items)) (sym z.1) k.from) s.watch.by,
    );
    paired = λ a b c r h.
        let s = source a r (pair b c) h in
        let w = watches-both s.of a b c s.watch in
        ap (λ o. entry_in o b) (shared a b r s.of s.is_rule (premise a r (pair b c) s) w.0) ∙ w.1;
  }
    where
      low : {r : ℕ} (ρ : ItemRule) (i : ℕ) → Known items rows r ρ → Premise ρ i → i < items
      low ρ i k (inl f) = subst (λ (j : ℕ). j < items) f k.from
      low ρ i k (inr m) = subst (λ o. IfSome o (λ b. b < items)) m k.with
