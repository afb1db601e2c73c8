-- The table of words that opening wrote is that of the graph.
use Rattle.std.proofs.Common.{◌≡◌, ℕ, ◌+◌, ◌-◌, ◌*◌, ◌%◌, ◌<◌, ◌≤◌, true, false, ltb, List, ◌++◌, length, get_or, drop, Some, None, Option, sym, refl, ap, ◌∙◌, subst, inl, inr, ⊎_elim, arith, length-append, option_map, IfSome}
use lib.Arith.{digits_mod}
use Rattle.std.proofs.lemmas.List.{length-map, get_or-map, get_or_default}
use Rattle.std.proofs.lemmas.Bool.{cond-true, and_from, le-leb, lt-ltb, cases_lt}
use Rattle.records.specs.Graphs.{Graph}
use Rattle.graph.specs.declared.rows.Row.{Row}
use Rattle.graph.specs.declared.graph_words.WordCounts.{WordCounts}
use Rattle.graph.specs.Law.{dependency_count, feature_count}
use Rattle.graph.specs.Opening.{over}
use Rattle.graph.specs.OpeningLaw.{NamedAt, Opens, ResolvedGraph, IsRuleOf, needs, builds, defaults, asks, plainly, switches, joins}
use Rattle.graph.specs.Places.{ItemPlace, unit, feat, number, item_count}
use Rattle.graph.specs.Rules.{Rule, rules}
use Rattle.graph.specs.Items.{item_on, side_of}
use Rattle.graph.specs.Words.{rows, row_of, graph_words, are_graph_words, local_count, row_count, local_items, row_start, row_at, row_in}
use Rattle.graph.proofs.ItemNumbers.{item-low, item-side}
use Rattle.graph.proofs.RowsRead.{row-back}
use Rattle.graph.proofs.RuleRanges.{InRange}
use Rattle.graph.proofs.Opens.{rows-length}
use Rattle.graph.proofs.RulesStand.{rule-stands, stands-rule}
use Rattle.lanes.specs.declared.sides.Side.{Side}
use Rattle.lanes.specs.declared.sides.Side.TheVariants.{Target, Host}
use Rattle.lanes.specs.Sides.{sides, side_number}
use Rattle.policy.specs.Answers.{Answers}
use Rattle.graph.specs.declared.rows.ItemRule.{ItemRule}
use Rattle.rulebook.specs.declared.entries.WatchEntry.{WatchEntry}
use Rattle.rulebook.specs.Tables.{Table}
use Rattle.rulebook.specs.Watch.{watch_entry, entry_in, rule_table}
use Rattle.rulebook.specs.GraphTable.{landing, row_lead, on_sides, rule_on, rule_for, graph_table}
use Rattle.rulebook.specs.GraphRules.{Has, number_on, Leads, IsWatchEntryOf, TableOf}
use Rattle.rulebook.specs.RuleLaws.{source, from-watches, with-watches}
use Rattle.rulebook.specs.GraphLaws.{from_row}
use Rattle.rulebook.proofs.ItemPlaces.{number-low, number_same, number-all, dependency-owner}

-- P holds of what there is
abbrev pub Held : {A : Type 0} → (A → Type 0) → Option A → Type 0
Held P None = Unit {0}
Held P (Some x) = P x

-- a rule of a graph names items of the graph
pub record Sane (g : Graph) (ρ : Rule) : Type 0 where
  pub from : Has g ρ.from
  pub with : Held (Has g) ρ.with
  pub to : Has g ρ.to

named-has : (g : Graph) (p k : ℕ) (n : List ℕ) → NamedAt g p k n → Has g (feat p k)
named-has g p k n h = h.1.0

module _ (g : Graph) (resolved : ResolvedGraph g) where
  pub sane : (ρ : Rule) → IsRuleOf g ρ → Sane g ρ
  sane ρ (needs {p} {k} {d} at o) = record { from = dependency-owner g p k at.0; with = tt; to = at.0 }
  sane ρ (builds {p} {k} {d} at) = record { from = at.0; with = tt; to = resolved.ends p k d at }
  sane ρ (defaults {p} {k} {j} {d} at o n) = record { from = at.0; with = tt; to = n.1.0 }
  sane ρ (asks {p} {k} {j} {d} {n} at i m) = record { from = at.0; with = tt; to = m.1.0 }
  sane ρ (plainly {p} {j} {i} {f} {n} at v m) = record { from = at.0; with = tt; to = m.1.0 }
  sane ρ (switches {p} {j} {k} {f} {d} {n} at v dat e o) = record { from = at.0; with = tt; to = dat.0 }
  sane ρ (joins {p} {j} {k} {i} {f} {d} {n} {x} at v dat e m) = record { from = at.0; with = dat.0; to = m.1.0 }

abbrev no_rule : Rule
no_rule = record { from = unit 0; with = None; to = unit 0; lane = None; cross = false }

held_below : (g : Graph) (m : Option ItemPlace) → Held (Has g) m → IfSome (option_map (number g) m) (λ j. j < item_count g)
held_below g None h = tt
held_below g (Some x) h = number-low g x h

on-twice : {A B C : Type 0} (f : A → B) (h : B → C) (m : Option A) → option_map h (option_map f m) ≡ option_map (λ x. h (f x)) m
on-twice f h None = refl
on-twice f h (Some x) = refl

-- opening accepted a graph, and these are its words, with whatever follows
module _ (file words : List ℕ) (g : Graph) (opens : Opens file words g) (answers : Answers) (xs : List ℕ) where
  abbrev n : ℕ
  n = item_count g

  abbrev count : ℕ
  count = length (rows g)

  abbrev ws : List ℕ
  ws = graph_words g ++ xs

  small : n ≤ 36864
  small = omega (arith, opens.says.lawful.few_packages, opens.says.lawful.few_dependencies, opens.says.lawful.few_features)

  whole : are_graph_words ws ≡ true
  whole =
      let long : 4 + 5 * count ≤ length ws = omega (arith, length-append (graph_words g) xs, rows-length (rows g)) in
      and_from _ _ (le-leb 4 (length ws) (omega (arith, long)))
      (and_from _ _ (le-leb (length g) 4096 opens.says.lawful.few_packages)
      (and_from _ _ (le-leb (dependency_count g) 16384 opens.says.lawful.few_dependencies)
      (and_from _ _ (le-leb (feature_count g) 16384 opens.says.lawful.few_features)
      (and_from _ _ (le-leb count 262144 opens.few) (le-leb (4 + 5 * count) (length ws) long)))))

  -- the rule of row r
  abbrev rule_at : ℕ → Rule
  rule_at r = get_or (rules g) r no_rule

  range : (ρ : Rule) → Sane g ρ → InRange n (row_of g ρ).rule
  range ρ h = record { from = number-low g ρ.from h.from; to = number-low g ρ.to h.to; with = held_below g ρ.with h.with }

  fewer : (r : ℕ) → r < count → r < length (rules g)
  fewer r h = omega (arith, length-map (rules g) (row_of g))

  all-local : local_count ws ≡ n
  all-local = ap local_items (cond-true (are_graph_words ws) _ _ whole)

  all-rows : row_count ws ≡ count
  all-rows = ap (λ (c : WordCounts). c.rows) (cond-true (are_graph_words ws) _ _ whole)

  row-read : (r : ℕ) → r < count → row_in ws r ≡ Some (row_of g (rule_at r))
  row-read r h =
      let e : get_or (rows g) r (row_of g no_rule) ≡ row_of g (rule_at r) = get_or-map (row_of g) (rules g) r no_rule (row_of g no_rule) (fewer r h) in
      let k = sane g opens.resolved (rule_at r) (rule-stands g (rule_at r) (r, fewer r h, get_or_default (rules g) r _ no_rule (fewer r h))) in
      cond-true (ltb r (row_count ws)) _ None (lt-ltb r (row_count ws) (omega (arith, all-rows)))
      ∙ ap (λ k. row_at k ws (row_start r)) all-local
      ∙ row-back (length g) (dependency_count g) (feature_count g) count (rows g) xs n r (row_of g no_rule) h
      (subst (λ (w : Row). InRange n w.rule) (sym e) (range (rule_at r) k)) (omega (arith, small))
      ∙ ap Some e

  abbrev rule : ℕ → ℕ → Option ItemRule
  rule i r = rule_for answers n (side_of n i) (row_in ws r)

  -- the rule on a side, in item numbers
  abbrev on_side : Rule → Side → Side → ItemRule
  on_side ρ s goal = record { from = number_on g s ρ.from; with = option_map (number_on g s) ρ.with; to = number_on g goal ρ.to }

  rule-read : (r : ℕ) → r < count → (s goal : Side) → Leads answers s (rule_at r) goal → (j : ℕ) → side_of n j ≡ Some s → rule j r ≡ Some (on_side (rule_at r) s goal)
  rule-read r h s goal leads j side =
      ap (λ o. rule_for answers n o (row_in ws r)) side
      ∙ ap (rule_on answers n s) (row-read r h)
      ∙ ap (option_map (λ (u : Side). on_sides n s u (row_of g (rule_at r)).rule)) leads
      ∙ ap (λ (m : Option ℕ). Some (record { from = number_on g s (rule_at r).from; with = m; to = number_on g goal (rule_at r).to })) (on-twice (number g) (item_on n s) (rule_at r).with)

  on-some : (f : ItemPlace → ℕ) (m : Option ItemPlace) (y : ℕ) → option_map f m ≡ Some y → (x : ItemPlace) × (m ≡ Some x) × (y ≡ f x)
  on-some f None y h = absurd (cc h)
  on-some f (Some x) y h = (x, refl, cc)

  sound : (i r : ℕ) (e : WatchEntry) → entry_in (rule i r) i ≡ Some e → IsWatchEntryOf answers g i e
  sound i r e h =
      let s = source (sides * n) count rule i r e h in
      let f = from_row answers ws n all-local (side_of n i) r s.of s.is_rule in
      let low : r < count = omega (arith, f.low, all-rows) in
      let same : f.row ≡ row_of g (rule_at r) = let z : Some f.row ≡ Some (row_of g (rule_at r)) = sym f.read ∙ row-read r low in cc in
      let is : s.of ≡ on_side (rule_at r) f.at f.goal =
      f.is
      ∙ ap (λ (w : Row). on_sides n f.at f.goal w.rule) same
      ∙ ap (λ (m : Option ℕ). record { from = number_on g f.at (rule_at r).from; with = m; to = number_on g f.goal (rule_at r).to }) (on-twice (number g) (item_on n f.at) (rule_at r).with) in
      record {
        side = f.at;
        goal = f.goal;
        rule = rule_at r;
        is_rule = rule-stands g (rule_at r) (r, fewer r low, get_or_default (rules g) r _ no_rule (fewer r low));
        leads = ap (λ (w : Row). landing f.at w.cross (row_lead answers f.at w.lane)) (sym same) ∙ f.lands;
        conclusion = s.watch.concludes ∙ ap (λ (ρ : ItemRule). ρ.to) is;
        premises = ⊎_elim
            (λ z. inl (sym z.0 ∙ ap (λ (ρ : ItemRule). ρ.from) is, z.1 ∙ ap (λ (ρ : ItemRule). ρ.with) is))
            (λ z.
            let (x, m, q) = on-some (number_on g f.at) (rule_at r).with i (sym (ap (λ (ρ : ItemRule). ρ.with) is) ∙ z.0) in
            inr (x, m, q, z.1 ∙ ap (λ (ρ : ItemRule). Some ρ.from) is))
            s.watch.by;
      }

  complete : (i : ℕ) (e : WatchEntry) → IsWatchEntryOf answers g i e → (r : ℕ) × (entry_in (rule i r) i ≡ Some e)
  complete i e w =
      let (r, low, at) = stands-rule g opens.says.lawful w.rule w.is_rule in
      let eq : rule_at r ≡ w.rule = get_or_default (rules g) r no_rule w.rule low ∙ at in
      let h : r < count = omega (arith, length-map (rules g) (row_of g)) in
      let k = sane g opens.resolved w.rule w.is_rule in
      let leads : Leads answers w.side (rule_at r) w.goal = subst (λ (ρ : Rule). Leads answers w.side ρ w.goal) (sym eq) w.leads in
      let read : (j : ℕ) → side_of n j ≡ Some w.side → rule j r ≡ Some (on_side w.rule w.side w.goal) =
      λ j side. rule-read r h w.side w.goal leads j side ∙ ap (λ (ρ : Rule). Some (on_side ρ w.side w.goal)) eq in
      let ρ : ItemRule = on_side w.rule w.side w.goal in (
        r,
        ⊎_elim
            (λ z.
            let side : side_of n i ≡ Some w.side = ap (side_of n) z.0 ∙ item-side n w.side (number g w.rule.from) (number-low g w.rule.from k.from) in
            ap (λ o. entry_in o i) (read i side) ∙ ap (watch_entry ρ) z.0 ∙ from-watches ρ
            ∙ ap Some (λ j. record { partner = sym z.1 j; conclusion = sym w.conclusion j }))
            (λ z.
            let has : Has g z.0 = subst (Held (Has g)) z.1 k.with in
            let side : side_of n i ≡ Some w.side = ap (side_of n) z.2 ∙ item-side n w.side (number g z.0) (number-low g z.0 has) in
            let with : ρ.with ≡ Some i = ap (option_map (number_on g w.side)) z.1 ∙ ap Some (sym z.2) in
            ap (λ o. entry_in o i) (read i side) ∙ with-watches ρ i with
            ∙ ap Some (λ j. record { partner = sym z.3 j; conclusion = sym w.conclusion j }))
            w.premises,
      )

  apart : (s u : Side) (x y : ItemPlace) → Has g x → Has g y → number_on g s x ≡ number_on g u y → (s ≡ u) × (x ≡ y)
  apart s u x y hx hy e =
      let a = number-low g x hx in
      let b = number-low g y hy in
      let side : Some s ≡ Some u = sym (item-side n s (number g x) a) ∙ ap (side_of n) e ∙ item-side n u (number g y) b in
      let local : number g x ≡ number g y = sym (digits_mod (side_number s) a) ∙ ap (λ i. i % n) e ∙ digits_mod (side_number u) b in
      (cc, number_same g x y hx hy local)

  all : (i : ℕ) → i < sides * n → (s : Side) × (x : ItemPlace) × Has g x × (number_on g s x ≡ i)
  all i h = ⊎_elim
      (λ (l : i < n). let (x, has, e) = number-all g i l in (Target, x, has, omega arith))
      (λ (l : n ≤ i). let (x, has, e) = number-all g (i - n) (omega arith) in (Host, x, has, omega arith))
      (cases_lt i n)

  abbrev table : Table
  table = rule_table (sides * n) count rule

  same-table : graph_table answers ws ≡ table
  same-table =
      λ j. rule_table (sides * all-local j) (all-rows j) (λ i r. rule_for answers (all-local j) (side_of (all-local j) i) (row_in ws r))

  pub words-table : TableOf answers g (graph_table answers ws)
  words-table = subst (TableOf answers g) (sym same-table) (record {
    items = refl;
    below = λ s x h. item-low n s (number g x) (number-low g x h);
    apart = apart;
    all = all;
    sound = sound;
    complete = complete;
  })

-- with the words behind them that opening left as they were
pub opened-table : (file words : List ℕ) (g : Graph) → Opens file words g → (answers : Answers) (all : List ℕ) → all ≡ over (graph_words g) words → TableOf answers g (graph_table answers all)
opened-table file words g opens answers all e = subst (λ (v : List ℕ). TableOf answers g (graph_table answers v)) (sym e) (words-table file words g opens answers (drop (length (graph_words g)) words))
