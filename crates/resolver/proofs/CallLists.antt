-- Lists of calls: what they leave and answer, from a state on and as a history.
use Rattle.std.proofs.Common.{◌≡◌, ℕ, ◌+◌, ◌<◌, ◌≤◌, List, [], ◌∷◌, ◌++◌, map, length, get_or, take, drop, set, sym, refl, ap, ◌∙◌, arith}
use Rattle.std.proofs.lemmas.List.{append_assoc, append-nil, at_drop_more, at_drop_all, length-map, take_more_set}
use Rattle.std.proofs.lemmas.List.Sums.{fold-append}
use Rattle.rulebook.specs.Tables.{Table, Laws}
use Rattle.session.specs.declared.calls.Answer.{Answer}
use Rattle.session.specs.declared.calls.Call as code
use Rattle.session.specs.Histories.{Call, history, call_answer, call_leaves, calls_leave, answers_from, call_view, first_calls}
use Rattle.session.specs.States.{State, empty}
use Rattle.session.proofs.LawHolds.{session-law}
use Rattle.resolver.specs.Law.{Law, GoesOn}
use Rattle.resolver.specs.PartLaw.{OpenedPartLaw}
use Rattle.resolver.proofs.PartKept.{opened-part-law}

-- the law of sessions holds after any calls
pub law-holds : (t : Table) → Laws t → (n : ℕ) (calls : List Call) → Law t n calls
law-holds t laws n calls = record {
  each = λ k. session-law t laws n (take k calls);
  first_calls = λ choose k. session-law t laws n (first_calls t n choose k);
}

-- and so that of closed target parts
pub parts-hold : OpenedPartLaw
parts-hold = opened-part-law session-law

-- what two lists of calls answer, one after the other
answers-append : (t : Table) (s : State) (before calls : List Call) → answers_from s t (before ++ calls) ≡ answers_from s t before ++ answers_from (calls_leave s t before) t calls
answers-append t s [] calls = refl
answers-append t s (c ∷ before) calls = ap (λ l. call_answer s t c ∷ l) (answers-append t (call_leaves s t c) before calls)

-- calls that go on from a history
pub goes-on : (t : Table) → Laws t → (n : ℕ) (before calls : List Call) (s left : State) (answers : List Answer) →
    s ≡ (history t n before).state → left ≡ calls_leave s t calls → take (length calls) answers ≡ answers_from s t calls → GoesOn t n before calls left answers
goes-on t laws n before calls s left answers e state told = record {
  state = state ∙ ap (λ u. calls_leave u t calls) e ∙ sym (fold-append (λ u c. call_leaves u t c) (empty n) before calls);
  all_answers = ap (λ l. answers_from (empty n) t before ++ l) (told ∙ ap (λ u. answers_from u t calls) e) ∙ sym (answers-append t (empty n) before calls);
  law = law-holds t laws n (before ++ calls);
}

-- one call more in a loop over them
module _ (t : Table) (cs : List code.Call) (k : ℕ) (d : code.Call) (within : k < length cs) (s new : State) (r : Answer) (told : r ≡ call_answer s t (call_view (get_or cs k d))) (left : new ≡ call_leaves s t (call_view (get_or cs k d))) where
  abbrev rest : List Call
  rest = map call_view (drop (k + 1) cs)

  opened : map call_view (drop k cs) ≡ call_view (get_or cs k d) ∷ rest
  opened = at_drop_more (map call_view) cs k d within

  pub more-state : (all : State) → calls_leave s t (map call_view (drop k cs)) ≡ all → calls_leave new t rest ≡ all
  more-state all e = ap (λ u. calls_leave u t rest) left ∙ sym (ap (calls_leave s t) opened) ∙ e

  pub more-answers : (answers all : List Answer) → k < length answers → take k answers ++ answers_from s t (map call_view (drop k cs)) ≡ all → take (k + 1) (set answers k r) ++ answers_from new t rest ≡ all
  more-answers answers all room e =
      ap (λ xs. xs ++ answers_from new t rest) (take_more_set answers k r room)
      ∙ append_assoc (take k answers) (r ∷ []) (answers_from new t rest)
      ∙ (λ i. take k answers ++ (told i ∷ answers_from (left i) t rest))
      ∙ sym (ap (λ xs. take k answers ++ answers_from s t xs) opened)
      ∙ e

-- the end of that loop
module _ (t : Table) (cs : List code.Call) (k : ℕ) (over : length cs ≤ k) (s : State) where
  pub all-state : (all : State) → calls_leave s t (map call_view (drop k cs)) ≡ all → s ≡ all
  all-state all e = sym (at_drop_all (λ ys. calls_leave s t (map call_view ys)) cs k over) ∙ e

  pub all-answers : (answers all : List Answer) → k ≤ length cs → take k answers ++ answers_from s t (map call_view (drop k cs)) ≡ all → take (length (map call_view cs)) answers ≡ all
  all-answers answers all most e =
      let z : length (map call_view cs) ≡ k = length-map cs call_view ∙ (let y : length cs ≡ k = omega arith in y) in
      ap (λ n. take n answers) z
      ∙ sym (append-nil (take k answers))
      ∙ sym (at_drop_all (λ ys. take k answers ++ answers_from s t (map call_view ys)) cs k over)
      ∙ e
