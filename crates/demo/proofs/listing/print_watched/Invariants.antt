use Rattle.std.proofs.Common.{◌-◌}
use Rattle.demo.proofs.listing.print_watched.Given as goal

abbrev pub decreases-loop-found : goal.decreases-loop-found
decreases-loop-found g l = (g.B.Rulebook.table l.book).rows - l.row
