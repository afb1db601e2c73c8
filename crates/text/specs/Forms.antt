-- The four forms of a feature string.
use Rattle.std.specs.Prelude.{ℕ, ◌+◌, List, ◌++◌, length, codes}
use Rattle.text.specs.Names.{Name}

-- what a feature string says, over what stands for a name
pub data Form (A : Type 0) : Type 0 where
  plain : (feature : A) → Form A
  switch : (dependency : A) → Form A
  strong : (dependency feature : A) → Form A
  weak : (dependency feature : A) → Form A

-- the names of a form are names
abbrev pub LawfulForm : Form (List ℕ) → Type 0
LawfulForm (plain g) = Name g
LawfulForm (switch n) = Name n
LawfulForm (strong n g) = Name n × Name g
LawfulForm (weak n g) = Name n × Name g

-- how a form is spelled
abbrev pub spell : Form (List ℕ) → List ℕ
spell (plain g) = g
spell (switch n) = codes "dep:" ++ n
spell (strong n g) = n ++ (codes "/" ++ g)
spell (weak n g) = n ++ (codes "?/" ++ g)

-- bytes of a string, and the place in it where they begin
pub record Piece : Type 0 where
  pub place : ℕ
  pub text : List ℕ

-- a string as a piece of itself
abbrev pub whole : List ℕ → Piece
whole t = record { place = 0; text = t }

-- the names of a form, where they stand in its spelling
abbrev pub with_places : Form (List ℕ) → Form Piece
with_places (plain g) = plain (whole g)
with_places (switch n) = switch (record { place = 4; text = n })
with_places (strong n g) = strong (whole n) (record { place = length n + 1; text = g })
with_places (weak n g) = weak (whole n) (record { place = length n + 2; text = g })

-- the form without the places
abbrev pub without_places : Form Piece → Form (List ℕ)
without_places (plain g) = plain g.text
without_places (switch n) = switch n.text
without_places (strong n g) = strong n.text g.text
without_places (weak n g) = weak n.text g.text
