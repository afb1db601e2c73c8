use Rattle.std.proofs.Common.{arith}
use Rattle.demo.proofs.Seeks.{sought-among}
use Rattle.demo.proofs.listing.print_watched.Goals as goal

pub overflow_add-row : goal.overflow_add-row
overflow_add-row g c =
    let book = c.args.book.now in
    let z = sought-among (g.B.Rulebook.table book) c.args.unit c.loop-found.row c.seek.result c.in-Some.found c.seek.ensures c.in-Some.is in
    let few = (g.met.B.Rulebook.lawful book).few_rows in
    omega arith

pub loop-found-smaller : goal.loop-found-smaller
loop-found-smaller g c =
    let z = sought-among (g.B.Rulebook.table c.args.book.now) c.args.unit c.loop-found.row c.seek.result c.in-Some.found c.seek.ensures c.in-Some.is in
    omega arith
