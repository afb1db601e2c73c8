-- What stays in the memory of a session over several calls.
use Rattle.std.proofs.Common.{◌≡◌, ℕ, ◌+◌, ◌-◌, ◌≤◌, List, drop, sym, ap, ◌∙◌, arith}
use Rattle.std.proofs.lemmas.List.{drop-drop}
use Rattle.session.specs.declared.session.Session.{Session}
use Rattle.session.specs.Held.{Keeps}

-- what is the same from one place on is so from a later one on
later : {A : Type 0} (k n : ℕ) (xs ys : List A) → k ≤ n → drop k xs ≡ drop k ys → drop n xs ≡ drop n ys
later k n xs ys l e =
    let z : k + (n - k) ≡ n = omega arith in
    ap (λ m. drop m xs) (sym z) ∙ sym (drop-drop (n - k) k xs) ∙ ap (drop (n - k)) e ∙ drop-drop (n - k) k ys ∙ ap (λ m. drop m ys) z

pub kept-on : (s u v : Session) → Keeps s u → Keeps u v → Keeps s v
kept-on s u v h i = record {
  items = i.items ∙ h.items;
  longer = omega (arith, h.longer, i.longer);
  same = (i.same.0 ∙ h.same.0, i.same.1 ∙ h.same.1);
  places = i.places ∙ later u.trail.len v.trail.len _ _ i.longer h.places;
  marks = i.marks ∙ ap (λ n. drop n u.trail.marks.now) i.items ∙ h.marks ∙ ap (λ n. drop n s.trail.marks.now) (sym i.items);
}
