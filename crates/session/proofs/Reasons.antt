-- Every call keeps that each trail record has the causes that it should have.
use Rattle.std.proofs.Common.{◌≡◌, ℕ, zero, suc, ◌+◌, ◌<◌, ◌≤◌, Bool, true, false, cond, not, ◌&&◌, eqb, List, [], ◌∷◌, ◌++◌, length, get_or, drop, is_some, Some, None, Option, option_map, sym, refl, ap, ◌∙◌, subst, ⊎_elim, arith, append-nil, eqb-true}
use Rattle.std.specs.List.{fold, Contains}
use Rattle.std.proofs.lemmas.Bool.{cases_lt}
use Rattle.std.proofs.lemmas.List.{length-append, get_or_append_left}
use Rattle.std.proofs.lemmas.Option.{none-some, same_Some}
use Rattle.std.proofs.Math.Seq.{get_or-append_seam}
use Rattle.rulebook.specs.declared.entries.RowEntry.{RowEntry}
use Rattle.rulebook.specs.Tables.{Table, seek}
use Rattle.session.specs.declared.trail.TrailRecord.{TrailRecord}
use Rattle.session.specs.Causes.{item_at, Because, asked_for, by_one, by_two}
use Rattle.session.specs.Histories.{Call, request, settle, active as active_call, reason, History, history}
use Rattle.session.specs.States.{State, with_trail, request_one, request_all, all_below, take_entry, settle_run, fits}
use Rattle.session.specs.Trails.{request_record, conclusion_record, active, find, grants, cause_of, no_record}
use Rattle.std.proofs.lemmas.List.Elements.{Contains-append_left, Contains-append_right, Contains-push}
use Rattle.session.proofs.Finding.{found-active, found-within}
use Rattle.session.proofs.Kept.{and_not_true}
use Rattle.session.proofs.Pasts.{begun, after_request, after_settle, called, past-history}
use Rattle.session.proofs.Seeks.{seek-some}
use Rattle.session.proofs.SettleKeeps.{settled-keeps}
use Rattle.session.proofs.TrailFacts.{At, at-inside}

-- the record at a trail number that was found is of that item
found-item : (t : List TrailRecord) (i k : ℕ) → find t i ≡ Some k → item_at t k ≡ i
found-item [] i k e = absurd (none-some k e)
found-item (r ∷ t) i k e = go (eqb r.item i) refl (find t i) (found-item t i) e
  where
    go : (b : Bool) → eqb r.item i ≡ b → (o : Option ℕ) → ((j : ℕ) → o ≡ Some j → item_at t j ≡ i) → cond b (Some 0) (option_map (λ k. k + 1) o) ≡ Some k → item_at (r ∷ t) k ≡ i
    go true q o h z = let y : 0 ≡ k = same_Some 0 k z in subst (λ j. item_at (r ∷ t) j ≡ i) y (eqb-true r.item i q)
    go false q None h z = absurd (none-some k z)
    go false q (Some j) h z = let y : suc j ≡ k = let x : j + 1 ≡ k = same_Some (j + 1) k z in omega arith in subst (λ m. item_at (r ∷ t) m ≡ i) y (h j refl)

-- the item at the worked place
at-item : (p : ℕ) (t : List TrailRecord) (x : TrailRecord) (xs : List TrailRecord) → drop p t ≡ x ∷ xs → item_at t p ≡ x.item
at-item zero [] x xs d = cc
at-item zero (y ∷ t) x xs d = cc
at-item (suc p) [] x xs d = cc
at-item (suc p) (y ∷ t) x xs d = at-item p t x xs d

module _ (table : Table) where
  -- more records and more requests change nothing for a record that stands
  because-more : (trail more : List TrailRecord) (asked wide : List ℕ) (k : ℕ) (r : TrailRecord) → k ≤ length trail → ((i : ℕ) → Contains asked i → Contains wide i) →
      Because table trail asked k r → Because table (trail ++ more) wide k r
  because-more trail more asked wide k r l h (asked_for p q o) = asked_for p q (h r.item o)
  because-more trail more asked wide k r l h (by_one {c = c} {row = row} p q older e) =
      by_one p q older (ap (λ (x : TrailRecord). table.entry x.item row) (get_or_append_left trail more no_record c (omega arith)) ∙ e)
  because-more trail more asked wide k r l h (by_two {c = c} {d = d} {row = row} p q older also e) =
      by_two p q older also (ap (λ (x : TrailRecord). table.entry x.item row) (get_or_append_left trail more no_record c (omega arith)) ∙ e
      ∙ ap (λ (x : TrailRecord). Some (record { partner = Some x.item; conclusion = r.item })) (sym (get_or_append_left trail more no_record d (omega arith))))

  -- each record of a trail stands there for a reason
  abbrev pub Reasons : List ℕ → List TrailRecord → Type 0
  Reasons asked trail = (k : ℕ) → k < length trail → Because table trail asked k (get_or trail k no_record)

  more-reasons : (asked wide : List ℕ) (trail : List TrailRecord) → ((i : ℕ) → Contains asked i → Contains wide i) → Reasons asked trail → Reasons wide trail
  more-reasons asked wide trail h reasons k l =
      let m : k ≤ length trail = omega arith in
      subst (λ t. Because table t wide k (get_or trail k no_record)) (append-nil trail)
      (because-more trail [] asked wide k (get_or trail k no_record) m h (reasons k l))

  -- one record more
  push-reasons : (asked : List ℕ) (trail : List TrailRecord) (x : TrailRecord) → Because table trail asked (length trail) x → Reasons asked trail → Reasons asked (trail ++ x ∷ [])
  push-reasons asked trail x because reasons k l = ⊎_elim
      (λ (w : k < length trail).
      let m : k ≤ length trail = omega arith in
      subst (Because table (trail ++ x ∷ []) asked k) (sym (get_or_append_left trail (x ∷ []) no_record k w))
      (because-more trail (x ∷ []) asked asked k (get_or trail k no_record) m (λ i o. o) (reasons k w)))
      (λ (w : length trail ≤ k).
      let z : length trail ≡ k = omega (arith, l, length-append trail (x ∷ [])) in
      let m : length trail ≤ length trail = omega arith in
      subst (λ j. Because table (trail ++ x ∷ []) asked j (get_or (trail ++ x ∷ []) j no_record)) z
      (subst (Because table (trail ++ x ∷ []) asked (length trail)) (sym (get_or-append_seam trail x [] no_record))
      (because-more trail (x ∷ []) asked asked (length trail) x m (λ i o. o) because)))
      (cases_lt k (length trail))

  -- an entry of the worked item is taken
  taken-reasons : (asked : List ℕ) (s : State) (x : TrailRecord) (xs : List TrailRecord) (f : RowEntry) → At s x xs → seek table x.item s.row ≡ Some f →
      Reasons asked s.trail → Reasons asked (take_entry s f).trail
  taken-reasons asked s x xs f d e reasons = go (grants s.trail f.entry.partner && not (active s.trail f.entry.conclusion)) refl
    where
      inside : s.position < length s.trail
      inside = at-inside s x xs d

      worked : item_at s.trail s.position ≡ x.item
      worked = at-item s.position s.trail x xs d

      why : (b : Option ℕ) (c : ℕ) → table.entry x.item f.row ≡ Some (record { partner = b; conclusion = c }) → grants s.trail b ≡ true →
          Because table s.trail asked (length s.trail) (conclusion_record c s.position (cause_of s.trail b))
      why None c q g = by_one refl refl inside (ap (λ j. table.entry j f.row) worked ∙ q)
      why (Some b) c q g = found (find s.trail b) refl
        where
          found : (o : Option ℕ) → find s.trail b ≡ o → Because table s.trail asked (length s.trail) (conclusion_record c s.position o)
          found None z = absurd (let y : false ≡ true = sym (ap is_some z) ∙ found-active s.trail b ∙ g in cc)
          found (Some k) z =
              by_two refl refl inside (found-within s.trail b k z)
              (ap (λ j. table.entry j f.row) worked ∙ q ∙ ap (λ j. Some (record { partner = Some j; conclusion = c })) (sym (found-item s.trail b k z)))

      new : TrailRecord
      new = conclusion_record f.entry.conclusion s.position (cause_of s.trail f.entry.partner)

      go : (b : Bool) → (grants s.trail f.entry.partner && not (active s.trail f.entry.conclusion)) ≡ b → Reasons asked (cond b (with_trail s (s.trail ++ new ∷ [])) s).trail
      go true h =
          push-reasons asked s.trail new
          (why f.entry.partner f.entry.conclusion (seek-some table x.item s.row f e).here
          (and_not_true (grants s.trail f.entry.partner) (active s.trail f.entry.conclusion) h).0)
          reasons
      go false h = reasons

  -- items that were asked for join
  requested-reasons : (asked is : List ℕ) (s : State) → ((i : ℕ) → Contains is i → Contains asked i) → Reasons asked s.trail → Reasons asked (request_all s is).trail
  requested-reasons asked [] s h reasons = reasons
  requested-reasons asked (i ∷ is) s h reasons = requested-reasons asked is (request_one s i) (λ j o. h j (Contains-append_right (i ∷ []) is j o)) (go (active s.trail i))
    where
      go : (b : Bool) → Reasons asked (cond b s (with_trail s (s.trail ++ request_record i ∷ []))).trail
      go true = reasons
      go false = push-reasons asked s.trail (request_record i) (asked_for refl refl (h i (Contains-append_left (i ∷ []) is i (Contains-push [] i)))) reasons

  called-reasons : (h : History) (c : Call) → Reasons h.accepted h.state.trail → Reasons (called table h c).accepted (called table h c).state.trail
  called-reasons h (active_call i) reasons = reasons
  called-reasons h (reason i) reasons = reasons
  called-reasons h (request is) reasons = go (all_below h.state.items is)
    where
      go : (b : Bool) → let g = cond b (after_request h is) h in Reasons g.accepted g.state.trail
      go true =
          requested-reasons (h.accepted ++ is) is h.state (Contains-append_right h.accepted is)
          (more-reasons h.accepted (h.accepted ++ is) h.state.trail (Contains-append_left h.accepted is) reasons)
      go false = reasons
  called-reasons h (settle b) reasons = go (fits h.state table)
    where
      ends : Reasons h.accepted (settle_run h.state table b).state.trail
      ends = (settled-keeps table (λ k s. Reasons h.accepted s.trail) (λ k s x xs d e r. r) (λ k s x xs f d e r. taken-reasons h.accepted s x xs f d e r) b 0 h.state reasons).0

      go : (f : Bool) → let g = cond f (after_settle h b (settle_run h.state table b)) h in Reasons g.accepted g.state.trail
      go true = ends
      go false = reasons

  calls-reasons : (calls : List Call) (h : History) → Reasons h.accepted h.state.trail → let g = fold (called table) h calls in Reasons g.accepted g.state.trail
  calls-reasons [] h reasons = reasons
  calls-reasons (c ∷ calls) h reasons = calls-reasons calls (called table h c) (called-reasons h c reasons)

  -- after any calls
  pub history-reasons : (n : ℕ) (calls : List Call) → Reasons (history table n calls).accepted (history table n calls).state.trail
  history-reasons n calls = subst (λ (h : History). Reasons h.accepted h.state.trail) (past-history table n calls) (calls-reasons calls (begun n) (λ k l. absurd (omega (arith, l))))
