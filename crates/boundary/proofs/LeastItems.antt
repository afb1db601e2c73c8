-- What is reported of a session that was settled are the items of the least set.
use Rattle.std.proofs.Common.{◌≡◌, ℕ, ◌+◌, ◌<◌, Bool, true, false, if◌then◌else◌, eqb, leb, List, [], ◌∷◌, ◌++◌, length, get_or, take, drop, Ok, Err, Result, sym, refl, ap, ◌∙◌, subst, arith, append-nil}
use Rattle.std.specs.Prelude.{IsTrue, Contains}
use Rattle.std.proofs.lemmas.List.Folds.{Any-from_list_any, list_any_at}
use Rattle.std.proofs.lemmas.Bool.{cond-true, and_from, le-leb, eq-eqb, eqb-true}
use Rattle.std.proofs.lemmas.List.{take_at, length-map, get_or-map}
use Rattle.graph.specs.Opening.{over}
use Rattle.policy.specs.Answers.{host_split}
use Rattle.rulebook.specs.Tables.{Table, Laws, max_items}
use Rattle.rulebook.specs.GraphTable.{graph_table}
use Rattle.rulebook.specs.GraphLaws.{graph-laws}
use Rattle.session.specs.declared.calls.Outcome.{Outcome}
use Rattle.session.specs.declared.calls.Outcome.TheVariants.{Settled, Pending}
use Rattle.session.specs.declared.calls.SessionFault.{SessionFault}
use Rattle.session.specs.declared.calls.Answer.TheVariants as answer
use Rattle.session.specs.declared.trail.TrailRecord.{TrailRecord}
use Rattle.session.specs.Least.{Least}
use Rattle.session.specs.Trails.{active, no_record}
use Rattle.session.specs.States.{State, empty, items_after, request_answer, request_leaves, settle_answer}
use Rattle.session.specs.Histories.{Call, request, settle, accepted_in_call, settled_after_call, History, history}
use Rattle.session.proofs.LawHolds.{session-law}
use Rattle.boundary.specs.Calls.{items_of, report_answer, report_leaves, unless_refused, request_and_settle_answer, request_and_settle_leaves, new_session, on_report, naiadiron_settle_answer, naiadiron_settle_leaves}
use Rattle.boundary.specs.SettleLaw.{SettleLaw}

-- the items of a trail are the active ones
items-active : (t : List TrailRecord) (i : ℕ) → Contains (items_of t) i → IsTrue (active t i)
items-active t i (k, l, e) =
    let inside : k < length t = omega (arith, l, length-map t (λ (r : TrailRecord). r.item)) in
    list_any_at (λ (r : TrailRecord). eqb r.item i) t k no_record inside
    (eq-eqb (get_or t k no_record).item i (sym (get_or-map (λ (r : TrailRecord). r.item) t k no_record i inside) ∙ e))

active-items : (t : List TrailRecord) (i : ℕ) → IsTrue (active t i) → Contains (items_of t) i
active-items t i h =
    let (k, r, l, e, q) = Any-from_list_any (λ (r : TrailRecord). eqb r.item i) t h in
    let size = length-map t (λ (r : TrailRecord). r.item) in
    (k, omega (arith, l, size), get_or-map (λ (r : TrailRecord). r.item) t k r i l ∙ ap (λ (x : TrailRecord). x.item) e ∙ eqb-true r.item i q)

-- a session for as many items as the table has begins empty
opened-empty : (t : Table) → Laws t → new_session t ≡ empty t.items
opened-empty t laws =
    let n = t.items in
    let same : leb n n ≡ true = le-leb n n (omega arith) in
    ap (λ c. empty (items_after n c)) (cond-true _ _ _ (and_from (leb n n) (leb n n) same same) ∙ cond-true _ _ _ (le-leb n max_items laws.few_items))

-- where the answer is k + 1, the first k words are the items of the least set
abbrev Tells : Table → List ℕ → ℕ → List ℕ → Type 0
Tells t is answer active = (k : ℕ) → answer ≡ k + 1 → (i : ℕ) → (Contains (take k active) i → Least t is i) × (Least t is i → Contains (take k active) i)

module _ (t : Table) (laws : Laws t) (is : List ℕ) (b : ℕ) (room : List ℕ) where
  abbrev begun : State
  begun = empty t.items

  abbrev calls : List Call
  calls = request is ∷ settle b ∷ []

  abbrev past : History
  past = history t t.items calls

  abbrev trail : List TrailRecord
  trail = past.state.trail

  abbrev settled : Result Outcome SessionFault
  settled = settle_answer (request_leaves begun is) t b

  accepted-all : request_answer begun is ≡ Ok tt → past.accepted ≡ is
  accepted-all q = ap (λ r. accepted_in_call (request is) (answer.Request r) ++ []) q ∙ append-nil is

  settled-all : (steps : ℕ) → settled ≡ Ok (Settled steps) → IsTrue past.settled
  settled-all steps q = subst (λ a. IsTrue (settled_after_call (settled_after_call false (answer.Request (request_answer begun is))) (answer.Settle a))) (sym q) refl

  module _ (number : ℕ) (active : List ℕ) where
    tells-none : number ≡ 0 → Tells t is number active
    tells-none e k q i = absurd (omega (arith, q, e))

    tells-items : (steps : ℕ) → request_answer begun is ≡ Ok tt → settled ≡ Ok (Settled steps) → number ≡ length trail + 1 → active ≡ over (items_of trail) room → Tells t is number active
    tells-items steps r a e w k q i =
        let items : List ℕ = items_of trail in
        let law = session-law t laws t.items calls in
        let size : length items ≡ k = omega (arith, q, e, length-map trail (λ (r : TrailRecord). r.item)) in
        let front : take k active ≡ items = ap (take k) w ∙ take_at items (drop (length items) room) k size in
        let asked : past.accepted ≡ is = accepted-all r in (
          (λ h. subst (λ x. Least t x i) asked (law.sound i (items-active trail i (subst (λ x. Contains x i) front h)))),
          (λ h. subst (λ x. Contains x i) (sym front) (active-items trail i (law.complete (settled-all steps a) i (subst (λ x. Least t x i) (sym asked) h)))),
        )

    tells-room : (steps : ℕ) → request_answer begun is ≡ Ok tt → settled ≡ Ok (Settled steps) → number ≡ report_answer trail (Ok (Settled steps)) room → active ≡ report_leaves trail (Ok (Settled steps)) room → Tells t is number active
    tells-room steps r a = go (leb (length trail) (length room))
      where
        go : (c : Bool) → number ≡ (if c then length trail + 1 else 0) → active ≡ (if c then over (items_of trail) room else room) → Tells t is number active
        go true e w = tells-items steps r a e w
        go false e w = tells-none e

    pub tells : number ≡ on_report t is b (λ l o. report_answer l o room) → active ≡ on_report t is b (λ l o. report_leaves l o room) → Tells t is number active
    tells e w =
        let z = opened-empty t laws in
        go (request_answer begun is) refl settled refl
        (e ∙ ap (λ s. report_answer (request_and_settle_leaves s t is b).trail (request_and_settle_answer s t is b) room) z)
        (w ∙ ap (λ s. report_leaves (request_and_settle_leaves s t is b).trail (request_and_settle_answer s t is b) room) z)
      where
        go : (r : Result (Unit {0}) SessionFault) → request_answer begun is ≡ r → (a : Result Outcome SessionFault) → settled ≡ a →
            number ≡ report_answer (unless_refused r (λ x. begun) past.state).trail (unless_refused r Err a) room →
            active ≡ report_leaves (unless_refused r (λ x. begun) past.state).trail (unless_refused r Err a) room → Tells t is number active
        go (Err x) p a q e w = tells-none e
        go (Ok u) p (Err x) q e w = tells-none e
        go (Ok u) p (Ok Pending) q e w = tells-none e
        go (Ok u) p (Ok (Settled steps)) q e w = tells-room steps p q e w

pub settle-law : (words is : List ℕ) (b : ℕ) (room : List ℕ) (number : ℕ) (active : List ℕ) → number ≡ naiadiron_settle_answer words is b room → active ≡ naiadiron_settle_leaves words is b room → SettleLaw words is number active
unfolding naiadiron_settle_answer naiadiron_settle_leaves
settle-law words is b room number active e w =
    let h = tells (graph_table host_split words) (graph-laws host_split words) is b room number active e w in
    record { sound = λ k q i. (h k q i).0; complete = λ k q i. (h k q i).1 }
