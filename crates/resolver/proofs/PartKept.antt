-- The law of closed target parts.
use Rattle.std.proofs.Common.{◌≡◌, ℕ, ◌<◌, ◌≤◌, ◌≢◌, Bool, true, false, ◌⊎◌, List, Some, None, Option, sym, refl, ap, ◌∙◌, subst, inl, inr, ⊎_elim, arith, option_map, IfSome}
use Rattle.std.specs.Prelude.{IsTrue}
use Rattle.std.proofs.lemmas.Bool.{cases_lt}
use Rattle.lanes.specs.declared.lane_numbers.Lane.{Lane}
use Rattle.records.specs.Graphs.{Graph}
use Rattle.graph.specs.Opening.{over}
use Rattle.graph.specs.OpeningLaw.{ResolvedGraph, IsRuleOf}
use Rattle.graph.specs.Places.{ItemPlace, number, item_count}
use Rattle.graph.specs.Rules.{Rule}
use Rattle.graph.specs.Words.{graph_words}
use Rattle.lanes.specs.declared.sides.Side.{Side}
use Rattle.lanes.specs.declared.sides.Side.TheVariants.{Target, Host}
use Rattle.policy.specs.Answers.{Answers, LawfulAnswers}
use Rattle.rulebook.specs.declared.entries.WatchEntry.{WatchEntry}
use Rattle.rulebook.specs.Tables.{Table, Laws}
use Rattle.rulebook.specs.GraphTable.{landing, row_lead}
use Rattle.rulebook.specs.GraphRules.{Has, number_on, Leads, TableOf}
use Rattle.rulebook.specs.GraphLaws.{graph-laws}
use Rattle.rulebook.proofs.GraphTables.{Held, sane, opened-table}
use Rattle.rulebook.proofs.ItemPlaces.{number-low, number_same, number-all}
use Rattle.session.specs.Least.{Closed}
use Rattle.session.specs.Histories.{Call, history}
use Rattle.session.specs.SessionLaw.{Active, SessionLaw}
use Rattle.resolver.specs.Parts.{Agree}
use Rattle.resolver.specs.PartLaw.{package_of, InPart, target_number, AskedIn, PartKept, OpenedPartLaw}
use Rattle.resolver.proofs.Simulations.{Decided, decide, both, least-simulates}
use Rattle.resolver.proofs.PartRules.{counterpart}
use Rattle.resolver.proofs.PartAgrees.{agree-back, part-back}

-- from the host, no rule leads to the target
host-landing : (cross : Bool) (o : Option Side) → o ≢ Some Target → landing Host cross o ≡ Some Target → ⊥
host-landing cross None n h = let z : ◌≡◌ {A = ℕ} 0 1 = cc in omega arith
host-landing false (Some s) n h = let z : ◌≡◌ {A = ℕ} 0 1 = cc in omega arith
host-landing true (Some s) n h = n h

host-stays : (answers : Answers) → LawfulAnswers answers → (cross : Bool) (lane : Option Lane) → landing Host cross (row_lead answers Host lane) ≡ Some Target → ⊥
host-stays answers lawful cross None = host-landing cross (Some Host) (λ h. let z : ◌≡◌ {A = ℕ} 0 1 = cc in omega arith)
host-stays answers lawful cross (Some l) = host-landing cross (answers l Host) (lawful l)

held-some : (P : ℕ → Type 0) (f : ItemPlace → ℕ) (m : Option ItemPlace) → IfSome (option_map f m) P → Held (λ x. P (f x)) m
held-some P f None h = tt
held-some P f (Some x) h = h

some-held : (P : ℕ → Type 0) (f : ItemPlace → ℕ) (m : Option ItemPlace) → Held (λ x. P (f x)) m → IfSome (option_map f m) P
some-held P f None h = tt
some-held P f (Some x) h = h

module _ (answers : Answers) (lawful : LawfulAnswers answers) (S : ℕ → Bool) (g h : Graph) (resolved : ResolvedGraph g) (agree : Agree answers S g h)
    (t u : Table) (of : TableOf answers g t) (other : TableOf answers h u) where
  -- the package of an item is in S, and Y has its number in h
  abbrev Shared : (ℕ → Bool) → ItemPlace → Type 0
  Shared Y x = IsTrue (S (package_of x)) × IsTrue (Y (target_number h x))

  -- a target item of g, by its number, is shared
  abbrev Kept : (ℕ → Bool) → ℕ → Type 0
  Kept Y i = i < item_count g → (x : ItemPlace) × Has g x × (target_number g x ≡ i) × Shared Y x

  module _ (Y : ℕ → Bool) where
    -- an item goes by its number
    same-shared : (x y : ItemPlace) → Has g x → Has g y → target_number g y ≡ target_number g x → Shared Y y → Shared Y x
    same-shared x y a b e = let z : number g y ≡ number g x = omega (arith, e) in subst (Shared Y) (number_same g y x b a z)

    kept-item : (x : ItemPlace) → Has g x → Kept Y (target_number g x) → Shared Y x
    kept-item x has kept =
        let low : target_number g x < item_count g = omega (arith, number-low g x has) in
        let (y, there, e, shared) = kept low in
        same-shared x y has there e shared

    kept-decided : (i : ℕ) → Decided (Kept Y i)
    kept-decided i = ⊎_elim
        (λ (l : i < item_count g).
        let (x, has, e) = number-all g i l in
        let q : target_number g x ≡ i = omega (arith, e) in
        go l x has q (both (decide (S (package_of x))) (decide (Y (target_number h x)))))
        (λ (l : item_count g ≤ i). inl (λ m. absurd (omega arith)))
        (cases_lt i (item_count g))
      where
        go : i < item_count g → (x : ItemPlace) → Has g x → target_number g x ≡ i → Decided (Shared Y x) → Decided (Kept Y i)
        go l x has q (inl shared) = inl (λ m. (x, has, q, shared))
        go l x has q (inr n) = inr (λ kept. let (y, there, e, shared) = kept l in n (same-shared x y has there (e ∙ sym q) shared))

    kept-mate : (m : Option ItemPlace) → Held (Has g) m → Held (λ x. Kept Y (target_number g x)) m → Held (λ x. IsTrue (Y (target_number h x))) m
    kept-mate None has kept = tt
    kept-mate (Some x) has kept = (kept-item x has kept).1

    -- a rule of g from the target to the target is one of h, which Y keeps
    kept-rule : Closed u (λ j. IsTrue (Y j)) → (ρ : Rule) → IsRuleOf g ρ → Leads answers Target ρ Target →
        Kept Y (target_number g ρ.from) → Held (λ x. Kept Y (target_number g x)) ρ.with → Has g ρ.to × Shared Y ρ.to
    kept-rule closed ρ is_rule leads from with =
        let there = sane g resolved ρ is_rule in
        let (s, y) = kept-item ρ.from there.from from in
        let c = counterpart answers S g h agree ρ is_rule leads s in
        let entry : WatchEntry = record { partner = option_map (target_number h) ρ.with; conclusion = target_number h ρ.to } in
        let (r, q) = other.complete (target_number h ρ.from) entry (record {
          side = Target;
          goal = Target;
          rule = record { from = ρ.from; with = ρ.with; to = ρ.to; lane = c.lane; cross = ρ.cross };
          is_rule = c.is_rule;
          leads = ap (landing Target ρ.cross) (sym c.same) ∙ leads;
          conclusion = refl;
          premises = inl (refl, refl);
        }) in (
          there.to,
          (c.within, closed (target_number h ρ.from) r entry q y (some-held (λ j. IsTrue (Y j)) (target_number h) ρ.with (kept-mate ρ.with there.with with))),
        )

    kept-closed : Closed u (λ j. IsTrue (Y j)) → Closed t (Kept Y)
    kept-closed closed i r e q here partner low =
        let w = of.sound i r e q in
        go w.side w.goal w.rule w.is_rule w.leads w.conclusion w.premises
      where
        go : (side goal : Side) (ρ : Rule) → IsRuleOf g ρ → Leads answers side ρ goal → e.conclusion ≡ number_on g goal ρ.to →
            ((i ≡ number_on g side ρ.from) × (e.partner ≡ option_map (number_on g side) ρ.with))
            ⊎ ((x : ItemPlace) × (ρ.with ≡ Some x) × (i ≡ number_on g side x) × (e.partner ≡ Some (number_on g side ρ.from))) →
            (x : ItemPlace) × Has g x × (target_number g x ≡ e.conclusion) × Shared Y x
        go side Host ρ is_rule leads c p = absurd (omega (arith, c, low))
        go Host Target ρ is_rule leads c p = absurd (host-stays answers lawful ρ.cross ρ.lane leads)
        go Target Target ρ is_rule leads c p =
            let (has, shared) = ⊎_elim
            (λ z. kept-rule closed ρ is_rule leads (subst (Kept Y) z.0 here) (held-some (Kept Y) (target_number g) ρ.with (subst (λ o. IfSome o (Kept Y)) z.1 partner)))
            (λ z. kept-rule closed ρ is_rule leads (subst (λ o. IfSome o (Kept Y)) z.3 partner)
            (subst (Held (λ x. Kept Y (target_number g x))) (sym z.1) (subst (Kept Y) z.2 here)))
            p in
            (ρ.to, has, sym c, shared)

  one-way : (m n : ℕ) (calls others : List Call) → SessionLaw t m calls → SessionLaw u n others →
      AskedIn S g h (history t m calls).accepted (history u n others).accepted → IsTrue (history u n others).settled →
      (x : ItemPlace) → InPart S g x → Active (history t m calls) (target_number g x) → Active (history u n others) (target_number h x)
  one-way m n calls others law second asked settled x part active =
      second.complete settled (target_number h x)
      (least-simulates t u (history t m calls).accepted (history u n others).accepted Kept kept-decided
      (λ Y given i o low. let (y, there, e, v) = asked i low o in (y, there.0, e, (there.1, given (target_number h y) v)))
      kept-closed (target_number g x) (target_number h x)
      (λ Y kept. (kept-item Y x part.0 kept).1)
      (law.sound (target_number g x) active))

-- for two sessions that keep the law of sessions
pub part-kept : (answers : Answers) (S : ℕ → Bool) (g h : Graph) (t u : Table) → LawfulAnswers answers → ResolvedGraph g → ResolvedGraph h →
    Agree answers S g h → TableOf answers g t → TableOf answers h u →
    (m n : ℕ) (calls others : List Call) → SessionLaw t m calls → SessionLaw u n others → PartKept S g h (history t m calls) (history u n others)
part-kept answers S g h t u lawful resolved also agree of other m n calls others law second same first last = record {
  forth = one-way answers lawful S g h resolved agree t u of other m n calls others law second same.forth last;
  back = λ x part. one-way answers lawful S h g also (agree-back answers S g h agree) u t other of n m others calls second law same.back first x
      (part-back answers S g h agree x part);
}

-- given the law of sessions
module _ (law : (t : Table) → Laws t → (n : ℕ) (calls : List Call) → SessionLaw t n calls) where
  -- for any tables that are those of the graphs
  part-law : (answers : Answers) (S : ℕ → Bool) (g h : Graph) (t u : Table) → LawfulAnswers answers → ResolvedGraph g → ResolvedGraph h →
      Agree answers S g h → Laws t → Laws u → TableOf answers g t → TableOf answers h u →
      (m n : ℕ) (calls others : List Call) → PartKept S g h (history t m calls) (history u n others)
  part-law answers S g h t u lawful resolved also agree first second of other m n calls others =
      part-kept answers S g h t u lawful resolved also agree of other m n calls others (law t first m calls) (law u second n others)

  -- and so by the words that opening wrote
  pub opened-part-law : OpenedPartLaw
  opened-part-law answers S g h file words other more lawful first second agree =
      part-law answers S g h _ _ lawful first.resolved second.resolved agree
      (graph-laws answers (over (graph_words g) words)) (graph-laws answers (over (graph_words h) more))
      (opened-table file words g first answers _ refl) (opened-table other more h second answers _ refl)
