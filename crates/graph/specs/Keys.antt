-- Features, or dependencies, by package and name.
use Rattle.std.specs.Prelude.{ℕ, Bool, ◌&&◌, List, ◌==◌}
use Rattle.std.specs.List.{list_any}
use Rattle.std.specs.Str.{bytes_eq}

-- the package of an entry, and its name
pub record Key : Type 0 where
  pub owner : ℕ
  pub name : List ℕ

abbrev pub is_key : ℕ → List ℕ → Key → Bool
is_key owner name k = k.owner == owner && bytes_eq k.name name

abbrev pub has_key : ℕ → List ℕ → List Key → Bool
has_key owner name ks = list_any (is_key owner name) ks
