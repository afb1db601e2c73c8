-- A rule of a package of the part, from the target to the target, stands in both graphs.
use Rattle.std.proofs.Common.{◌≡◌, ℕ, ◌<◌, ◌≤◌, Bool, true, List, length, get_or, Some, None, Option, codes, sym, refl, ap, ◌∙◌, subst, ⊎_elim, arith}
use Rattle.std.specs.Prelude.{IsTrue}
use Rattle.std.proofs.lemmas.Bool.{cases_lt}
use Rattle.std.specs.List.{Contains}
use Rattle.lanes.specs.declared.lane_numbers.Lane.{Lane}
use Rattle.records.specs.Graphs.{Dependency, Feature, Graph}
use Rattle.graph.specs.Law.{features_in}
use Rattle.graph.specs.OpeningLaw.{DependencyAt, FeatureAt, NamedAt, IsRuleOf, needs, builds, defaults, asks, plainly, switches, joins}
use Rattle.graph.specs.Places.{ItemPlace, unit, dep, feat, dependencies_of, features_of, no_dependency, no_feature}
use Rattle.graph.specs.Rules.{Rule, lane_of}
use Rattle.graph.proofs.Befores.{package-beyond}
use Rattle.lanes.specs.declared.sides.Side.{Side}
use Rattle.lanes.specs.declared.sides.Side.TheVariants.{Target}
use Rattle.policy.specs.Answers.{Answers}
use Rattle.rulebook.specs.GraphTable.{landing, row_lead}
use Rattle.rulebook.specs.GraphRules.{Leads}
use Rattle.rulebook.proofs.ItemPlaces.{dependency-owner}
use Rattle.resolver.specs.Parts.{DependenciesAgree, PackagesAgree, Agree}
use Rattle.resolver.specs.PartLaw.{package_of}

-- a rule crosses from the target to the target only if its lane leads there
crossed : (o : Option Side) → landing Target true o ≡ Some Target → o ≡ Some Target
crossed None h = h
crossed (Some s) h = h

pub feature-owner : (g : Graph) (p k : ℕ) → k < length (features_of g p) → p < length g
feature-owner g p k l = ⊎_elim
    (λ (b : p < length g). b)
    (λ (b : length g ≤ p). absurd (omega (arith, l, ap (λ a. length (features_in a.declarations)) (package-beyond g p b))))
    (cases_lt p (length g))

module _ (answers : Answers) (S : ℕ → Bool) (g h : Graph) (agree : Agree answers S g h) where
  -- a rule of g is one of h, with a lane that leads from the target where its own does; its conclusion is of the part
  pub record Counterpart (ρ : Rule) : Type 0 where
    pub lane : Option Lane
    pub is_rule : IsRuleOf h (record { from = ρ.from; with = ρ.with; to = ρ.to; lane = lane; cross = ρ.cross })
    pub same : row_lead answers Target ρ.lane ≡ row_lead answers Target lane
    pub within : IsTrue (S (package_of ρ.to))

  -- what corresponds to a dependency, a feature and a feature's name
  other : (p k : ℕ) (d : Dependency) → IsTrue (S p) → DependencyAt g p k d → (e : Dependency) × DependencyAt h p k e × DependenciesAgree answers S g h d e
  other p k d s at =
      let alike : PackagesAgree answers S g h p = agree.packages p (dependency-owner g p k at.0) s in
      let e : Dependency = get_or (dependencies_of h p) k no_dependency in
      let there : DependencyAt h p k e = (omega (arith, at.0, alike.count), refl) in
      (e, there, alike.dependencies k d e at there)

  same-feature : (p k : ℕ) (f : Feature) → IsTrue (S p) → FeatureAt g p k f → FeatureAt h p k f
  same-feature p k f s at =
      subst (λ (fs : List Feature). (k < length fs) × (get_or fs k no_feature ≡ f)) (agree.packages p (feature-owner g p k at.0) s).features at

  same-name : (p k : ℕ) (n : List ℕ) → IsTrue (S p) → NamedAt g p k n → NamedAt h p k n
  same-name p k n s (f, at, e) = (f, same-feature p k f s at, e)

  -- at the end of a dependency
  end-name : (d e : Dependency) (k : ℕ) (n : List ℕ) → d.end ≡ e.end → IsTrue (S d.end) → NamedAt g d.end k n → NamedAt h e.end k n
  end-name d e k n q s named = subst (λ p. NamedAt h p k n) q (same-name d.end k n s named)

  -- a rule that leads over dependency d to an item of its end
  over : (d e : Dependency) → DependenciesAgree answers S g h d e → (from : ItemPlace) (with : Option ItemPlace) (to : ℕ → ItemPlace) → ((q : ℕ) → package_of (to q) ≡ q) →
      Leads answers Target (record { from = from; with = with; to = to d.end; lane = Some (lane_of g d); cross = true }) Target →
      ((d.end ≡ e.end) × (d.asks ≡ e.asks) × (d.defaults ≡ e.defaults) × IsTrue (S d.end) →
      IsRuleOf h (record { from = from; with = with; to = to e.end; lane = Some (lane_of h e); cross = true })) →
      Counterpart (record { from = from; with = with; to = to d.end; lane = Some (lane_of g d); cross = true })
  over d e a from with to owned leads is_rule =
      let (end, ask, by_default, t) = a.target (crossed (answers (lane_of g d) Target) leads) in
      record {
        lane = Some (lane_of h e);
        is_rule = subst (λ q. IsRuleOf h (record { from = from; with = with; to = to q; lane = Some (lane_of h e); cross = true })) (sym end) (is_rule (end, ask, by_default, t));
        same = a.answer;
        within = subst (λ q. IsTrue (S q)) (sym (owned d.end)) t;
      }

  pub counterpart : (ρ : Rule) → IsRuleOf g ρ → Leads answers Target ρ Target → IsTrue (S (package_of ρ.from)) → Counterpart ρ
  counterpart ρ (needs {p} {k} {d} at o) leads s =
      let (e, there, a) = other p k d s at in
      record { lane = Some (lane_of h e); is_rule = needs there (sym a.optional ∙ o); same = a.answer; within = s }
  counterpart ρ (builds {p} {k} {d} at) leads s =
      let (e, there, a) = other p k d s at in
      over d e a (dep p k) None unit (λ q. refl) leads (λ z. builds there)
  counterpart ρ (defaults {p} {k} {j} {d} at o m) leads s =
      let (e, there, a) = other p k d s at in
      over d e a (dep p k) None (λ q. feat q j) (λ q. refl) leads (λ z. defaults there (sym z.2 ∙ o) (end-name d e j (codes "default") z.0 z.3 m))
  counterpart ρ (asks {p} {k} {j} {d} {n} at i m) leads s =
      let (e, there, a) = other p k d s at in
      over d e a (dep p k) None (λ q. feat q j) (λ q. refl) leads (λ z. asks there (subst (λ xs. Contains xs n) z.1 i) (end-name d e j n z.0 z.3 m))
  counterpart ρ (plainly {p} {j} {i} {f} {n} at v m) leads s =
      record { lane = None; is_rule = plainly (same-feature p j f s at) v (same-name p i n s m); same = refl; within = s }
  counterpart ρ (switches {p} {j} {k} {f} {d} {n} at v dat q o) leads s =
      let (e, there, a) = other p k d s dat in
      record { lane = Some (lane_of h e); is_rule = switches (same-feature p j f s at) v there (sym a.name ∙ q) (sym a.optional ∙ o); same = a.answer; within = s }
  counterpart ρ (joins {p} {j} {k} {i} {f} {d} {n} {x} at v dat q m) leads s =
      let (e, there, a) = other p k d s dat in
      over d e a (feat p j) (Some (dep p k)) (λ r. feat r i) (λ r. refl) leads (λ z. joins (same-feature p j f s at) v there (sym a.name ∙ q) (end-name d e i x z.0 z.3 m))
