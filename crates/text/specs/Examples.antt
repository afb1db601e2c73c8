-- The worked examples of feature strings that are refused, each with its place.
use Rattle.std.specs.Prelude.{◌≡◌, ℕ, List, Err, codes}
use Rattle.text.specs.declared.faults.StringFault.TheVariants.{NoForm}
use Rattle.text.specs.Readers.{read_form}

abbrev pub RefusedAt : List ℕ → ℕ → Type 0
RefusedAt t place = read_form t ≡ Err (NoForm place)

abbrev pub Examples : Type 0
Examples =
    RefusedAt (codes "") 0
    × RefusedAt (codes "a?") 2
    × RefusedAt (codes "a??") 2
    × RefusedAt (codes "dep:a/b") 5
