-- Sides are told apart by their numbers.
use Rattle.std.proofs.Common.{◌≡◌, ◌<◌, Some, refl, lit<}
use Rattle.lanes.specs.declared.sides.Side.{Side}
use Rattle.lanes.specs.declared.sides.Side.TheVariants.{Target, Host}
use Rattle.lanes.specs.Sides.{sides, side_number, side_at}

pub side-back : (s : Side) → (side_number s < sides) × (side_at (side_number s) ≡ Some s)
side-back Target = (lit< tt, refl)
side-back Host = (lit< tt, refl)
