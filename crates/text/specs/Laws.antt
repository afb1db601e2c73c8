-- What it is to read a string by a grammar, and the two readers' laws.
use Rattle.std.specs.Prelude.{◌≡◌, ℕ, List, Ok, Err, Result, ◌≢◌}
use Rattle.text.specs.declared.faults.StringFault.{StringFault}
use Rattle.text.specs.declared.faults.StringFault.TheVariants.{NoName, NoForm}
use Rattle.text.specs.Names.{Name}
use Rattle.text.specs.Forms.{Form, LawfulForm, spell, Piece, whole, with_places}
use Rattle.text.specs.Prefixes.{Longest}

-- r is what reading t answers, where a lawful meaning m is answered as `answer m`,
-- and a refusal at a place as `fault` of that place
pub record Reads {M A : Type 0}
    (Lawful : M → Type 0) (spell : M → List ℕ) (answer : M → A) (fault : ℕ → StringFault)
    (t : List ℕ) (r : Result A StringFault) : Type 0 where
  -- what is accepted is the spelling of a lawful meaning, and is answered as that one
  pub sound : (a : A) → r ≡ Ok a → (m : M) × Lawful m × (t ≡ spell m) × (a ≡ answer m)
  -- the spelling of a lawful meaning is accepted
  pub complete : (m : M) → Lawful m → t ≡ spell m → r ≡ Ok (answer m)
  -- it has one reading
  pub once : (m n : M) → Lawful m → Lawful n → t ≡ spell m → t ≡ spell n → m ≡ n
  -- what is refused is no such spelling, and the place is the length of its longest prefix that begins one
  pub refused : (e : StringFault) → r ≡ Err e →
      (k : ℕ) × (e ≡ fault k) × Longest Lawful spell t k × ((m : M) → Lawful m → t ≢ spell m)

-- a name spells itself
abbrev pub NameLaw : List ℕ → Result Piece StringFault → Type 0
NameLaw t r = Reads Name (λ n. n) whole NoName t r

abbrev pub FormLaw : List ℕ → Result (Form Piece) StringFault → Type 0
FormLaw t r = Reads LawfulForm spell with_places NoForm t r
