-- How many strings a list has, and how what one says is spelled.
use Rattle.std.proofs.Common.{◌≡◌, ℕ, zero, suc, ◌≤◌, List, [], ◌∷◌, length, drop, Ok, Err, Result, sym, refl, ap, ◌∙◌, arith}
use Rattle.text.specs.declared.faults.StringFault.{StringFault}
use Rattle.text.specs.Forms.{Form, Piece, spell, without_places}
use Rattle.text.specs.Readers.{read_form}
use Rattle.text.proofs.FormLaws.{form-law, without-with_places}
use Rattle.records.specs.Bodies.{strings_in, form_or_plain, form_in}

pub listed-length : (n : ℕ) (bs : List ℕ) → length (strings_in n bs) ≤ n
listed-length zero bs = omega arith
listed-length (suc n) [] = omega arith
listed-length (suc n) (k ∷ bs) = omega (arith, listed-length n (drop k bs))

-- what a string says is spelled as it
pub said-spelled : (t : List ℕ) → spell (form_in t) ≡ t
said-spelled t = go (read_form t) refl
  where
    go : (r : Result (Form Piece) StringFault) → read_form t ≡ r → spell (form_or_plain t r) ≡ t
    go (Ok f) e =
        let s = (form-law t (read_form t) refl).sound f e in
        ap spell (ap without_places s.3 ∙ without-with_places s.0) ∙ sym s.2
    go (Err x) e = refl
