-- A record joins the trail of a session: what its memory then holds.
use Rattle.std.proofs.Common.{◌≡◌, ℕ, ◌+◌, ◌<◌, ◌≤◌, false, eqb, List, [], ◌∷◌, ◌++◌, length, get_or, take, drop, set, Some, None, Option, sym, ap, ◌∙◌, subst, ⊎_elim, arith}
use Rattle.std.proofs.lemmas.List.{length-take-le, length-set, take_more_set, drop-set-lt, get_or-set_same, get_or-set_other}
use Rattle.std.proofs.lemmas.Bool.{cond-true, cond-false, eq-eqb, ne_eqb, cases_eq}
use Rattle.session.specs.declared.trail.TrailRecord.{TrailRecord}
use Rattle.session.specs.Trails.{active, find, Below, Apart, Marked, FirstOlder, SecondOlder}
use Rattle.session.proofs.Finding.{Older}
use Rattle.session.proofs.TrailEnds.{find-more, more-below, more-apart, more-first, more-second, room}

module _ (n : ℕ) (places : List TrailRecord) (len : ℕ) (held : len ≤ length places) (x : TrailRecord) (low : x.item < n) (off : active (take len places) x.item ≡ false) where
  abbrev t : List TrailRecord
  t = take len places

  size : length t ≡ len
  size = length-take-le len places held

  pub joined-room : Below n t → Apart t → len < n
  joined-room below apart = omega (arith, size, room n t x low off below apart)

  -- the places, the marks and the length afterwards
  module _ (fits : len < length places) (p : List TrailRecord) (is : p ≡ set places len x) (l : ℕ) (more : l ≡ len + 1) where
    pub joined-trail : take l p ≡ t ++ x ∷ []
    joined-trail = (λ i. take (more i) (is i)) ∙ take_more_set places len x fits

    pub joined-places : length p ≡ length places
    joined-places = ap length is ∙ length-set places len x

    pub joined-beyond : drop l p ≡ drop l places
    joined-beyond = ap (drop l) is ∙ drop-set-lt l places len x (omega arith)

    pub joined-below : Below n t → Below n (take l p)
    joined-below b = subst (Below n) (sym joined-trail) (more-below n t x low off b)

    pub joined-apart : Apart t → Apart (take l p)
    joined-apart a = subst Apart (sym joined-trail) (more-apart n t x low off a)

    pub joined-first : Older len x.first → FirstOlder t → FirstOlder (take l p)
    joined-first o f = subst FirstOlder (sym joined-trail) (more-first n t x low off (subst (λ k. Older k x.first) (sym size) o) f)

    pub joined-second : Older len x.second → SecondOlder t → SecondOlder (take l p)
    joined-second o f = subst SecondOlder (sym joined-trail) (more-second n t x low off (subst (λ k. Older k x.second) (sym size) o) f)

    module _ (marks m : List (Option ℕ)) (now : m ≡ set marks x.item (Some len)) where
      pub joined-marks : length m ≡ length marks
      joined-marks = ap length now ∙ length-set marks x.item (Some len)

      pub joined-marked : n ≤ length marks → Marked n t marks → Marked n (take l p) m
      joined-marked wide marked i w =
          ap (λ ms. get_or ms i None) now
          ∙ ⊎_elim
          (λ (e : x.item ≡ i). ap (λ j. get_or (set marks x.item (Some len)) j None) (sym e) ∙ get_or-set_same marks x.item (Some len) None (omega arith)
          ∙ ap (λ k. Some k) (sym size) ∙ sym (cond-true (eqb x.item i) _ _ (eq-eqb x.item i e)))
          (λ (e : x.item ≡ i → ⊥). get_or-set_other marks x.item i (Some len) None (λ y. e (sym y)) ∙ marked i w ∙ sym (cond-false (eqb x.item i) _ _ (ne_eqb x.item i e)))
          (cases_eq x.item i)
          ∙ sym (find-more t x i off) ∙ ap (λ u. find u i) (sym joined-trail)

      pub joined-others : drop n m ≡ drop n marks
      joined-others = ap (drop n) now ∙ drop-set-lt n marks x.item (Some len) low
