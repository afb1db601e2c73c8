-- What the code answers, with the bytes in the place of what refers to them.
use Rattle.std.specs.Prelude.{Ok, Err, Result}
use Rattle.text.specs.declared.pieces.Piece as code
use Rattle.text.specs.declared.pieces.FeatureString.{FeatureString}
use Rattle.text.specs.declared.pieces.FeatureString.TheVariants.{Plain, Switch, Strong, Weak}
use Rattle.text.specs.Forms.{Form, plain, switch, strong, weak, Piece}

abbrev pub piece : code.Piece → Piece
piece p = record { place = p.at; text = p.bytes.now }

abbrev pub form : FeatureString → Form Piece
form (Plain g) = plain (piece g)
form (Switch n) = switch (piece n)
form (Strong n g) = strong (piece n) (piece g)
form (Weak n g) = weak (piece n) (piece g)

abbrev pub map_ok : {A B E : Type 0} → (A → B) → Result A E → Result B E
map_ok f (Ok a) = Ok (f a)
map_ok f (Err e) = Err e
