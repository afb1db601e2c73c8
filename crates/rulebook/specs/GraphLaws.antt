-- The graph book keeps the laws of tables, for any words. A proof, which stands here as RuleLaws does.
use Rattle.std.specs.Prelude.{◌≡◌, ℕ, ◌*◌, ◌<◌, List, Some, None, Option, nat_lt, refl, option_map, IfSome}
use Rattle.std.proofs.Common.{sym, ap, ◌∙◌, subst, inl, inr, arith}
use Rattle.std.proofs.lemmas.Bool.{ltb-true}
use Rattle.lanes.specs.declared.sides.Side.{Side}
use Rattle.lanes.specs.Sides.{sides}
use Rattle.graph.specs.declared.rows.ItemRule.{ItemRule}
use Rattle.graph.specs.declared.rows.Row.{Row}
use Rattle.graph.specs.Items.{item_on, side_of}
use Rattle.graph.specs.Words.{local_count, row_count, row_start, row_at, row_in}
use Rattle.graph.proofs.ItemNumbers.{item-low, item-side}
use Rattle.graph.proofs.RuleRanges.{InRange, read-range}
use Rattle.graph.proofs.WordFacts.{kept, local-small}
use Rattle.policy.specs.Answers.{Answers}
use Rattle.rulebook.specs.Tables.{Laws}
use Rattle.rulebook.specs.GraphTable.{landing, row_lead, on_sides, rule_on, rule_for, graph_table}
use Rattle.rulebook.specs.RuleLaws.{cond-some, Premise, Known, rule-laws}

module _ (answers : Answers) (ws : List ℕ) (n : ℕ) (all : local_count ws ≡ n) where
  abbrev rule : ℕ → ℕ → Option ItemRule
  rule i r = rule_for answers n (side_of n i) (row_in ws r)

  -- where a rule comes from
  pub record From (side : Option Side) (r : ℕ) (ρ : ItemRule) : Type 0 where
    pub at : Side
    pub sided : side ≡ Some at
    pub row : Row
    pub read : row_in ws r ≡ Some row
    pub low : r < row_count ws
    pub range : InRange n row.rule
    pub goal : Side
    pub lands : landing at row.cross (row_lead answers at row.lane) ≡ Some goal
    pub is : ρ ≡ on_sides n at goal row.rule

  pub from_row : (side : Option Side) (r : ℕ) (ρ : ItemRule) → rule_for answers n side (row_in ws r) ≡ Some ρ → From side r ρ
  from_row side r ρ h = by_side side refl h
    where
      by-goal : (s : Side) → side ≡ Some s → (row : Row) → row_in ws r ≡ Some row → (g : Option Side) → landing s row.cross (row_lead answers s row.lane) ≡ g →
          option_map (λ goal. on_sides n s goal row.rule) g ≡ Some ρ → From side r ρ
      by-goal s q row w None l h = absurd (cc h)
      by-goal s q row w (Some goal) l h =
          let c = cond-some (nat_lt r (row_count ws)) (row_at (local_count ws) ws (row_start r)) row w in
          record {
            at = s;
            sided = q;
            row = row;
            read = w;
            low = ltb-true r (row_count ws) c.0;
            range = subst (λ (k : ℕ). InRange k row.rule) all (read-range (local_count ws) ws (row_start r) row c.1);
            goal = goal;
            lands = l;
            is = sym (let z : on_sides n s goal row.rule ≡ ρ = cc in z);
          }

      by_row : (s : Side) → side ≡ Some s → (o : Option Row) → row_in ws r ≡ o → rule_on answers n s o ≡ Some ρ → From side r ρ
      by_row s q None w h = absurd (cc h)
      by_row s q (Some row) w h = by-goal s q row w (landing s row.cross (row_lead answers s row.lane)) refl h

      by_side : (o : Option Side) → side ≡ o → rule_for answers n o (row_in ws r) ≡ Some ρ → From side r ρ
      by_side None q h = absurd (cc h)
      by_side (Some s) q h = by_row s q (row_in ws r) refl h

  with-low : (s : Side) (m : Option ℕ) → IfSome m (λ j. j < n) → IfSome (option_map (item_on n s) m) (λ j. j < sides * n)
  with-low s None h = tt
  with-low s (Some j) h = item-low n s j h

  known : (i r : ℕ) (ρ : ItemRule) → rule i r ≡ Some ρ → Known (sides * n) (row_count ws) r ρ
  known i r ρ h =
      let f = from_row (side_of n i) r ρ h in
      subst (Known (sides * n) (row_count ws) r) (sym f.is) (record {
        row = f.low;
        from = item-low n f.at f.row.rule.from f.range.from;
        to = item-low n f.goal f.row.rule.to f.range.to;
        with = with-low f.at f.row.rule.with f.range.with;
      })

  -- a premise of a rule is a local item on its side
  premise-local : (s goal : Side) (ρ : ItemRule) → InRange n ρ → (j : ℕ) → Premise (on_sides n s goal ρ) j → (l : ℕ) × (l < n) × (item_on n s l ≡ j)
  premise-local s goal ρ range j (inl f) = (ρ.from, range.from, f)
  premise-local s goal ρ range j (inr m) = by-with ρ.with range.with m
    where
      by-with : (o : Option ℕ) → IfSome o (λ k. k < n) → option_map (item_on n s) o ≡ Some j → (l : ℕ) × (l < n) × (item_on n s l ≡ j)
      by-with None a h = absurd (cc h)
      by-with (Some l) a h = (l, a, cc)

  shared : (i j r : ℕ) (ρ : ItemRule) → rule i r ≡ Some ρ → Premise ρ i → Premise ρ j → rule j r ≡ Some ρ
  shared i j r ρ h p q =
      let f = from_row (side_of n i) r ρ h in
      let (l, low, is) = premise-local f.at f.goal f.row.rule f.range j (subst (λ (σ : ItemRule). Premise σ j) f.is q) in
      let side : side_of n j ≡ Some f.at = ap (side_of n) (sym is) ∙ item-side n f.at l low in
      ap (λ o. rule_for answers n o (row_in ws r)) (side ∙ sym f.sided) ∙ h

pub graph-laws : (answers : Answers) (ws : List ℕ) → Laws (graph_table answers ws)
graph-laws answers ws =
    rule-laws (sides * local_count ws) (row_count ws) (rule answers ws (local_count ws) refl)
    (omega (arith, local-small ws)) (omega (arith, (kept ws).rows))
    (known answers ws (local_count ws) refl) (shared answers ws (local_count ws) refl)
