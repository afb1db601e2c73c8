-- The records that are read again are of a set.
use Rattle.std.proofs.Props.{props}
use Rattle.std.proofs.Common.{Option}
use Rattle.records.specs.Graphs.{Declaration}

pub part-set : IsSet Declaration
part-set = hlevel props

pub option-set : IsSet (Option Declaration)
option-set = hlevel (props, part-set)
