-- Lanes are told apart by their numbers.
use Rattle.std.proofs.Common.{◌≡◌, ◌<◌, Some, arith}
use Rattle.std.proofs.lemmas.Grind.{common_steps}
use Rattle.lanes.specs.declared.lane_numbers.Lane.{Lane}
use Rattle.lanes.specs.Lanes.{lanes, lane_number, lane_at}

-- a lane's number is below their count, and has that lane
pub lane-back : (lane : Lane) → (lane_number lane < lanes) × (lane_at (lane_number lane) ≡ Some lane)
lane-back lane = (grind (arith, common_steps), grind (arith, common_steps))
