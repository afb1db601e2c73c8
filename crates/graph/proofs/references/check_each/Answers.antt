use Rattle.std.proofs.Common.{◌≤◌, length, ap, arith, rules}
use Rattle.records.specs.Bodies.{texts}
use Rattle.records.proofs.Listings.{listed-length}
use Rattle.graph.specs.Second.{check_each}
use Rattle.graph.proofs.references.check_each.Goals as goal

pub loop-text-init : goal.loop-text-init
loop-text-init g c =
    let s = c.args.strings in
    let e = c.into_iter-text-iterator.ensures.into_iter_gives in
    let n : s.count ≤ 255 = search rules in
    (omega (arith, c.requires.small, n, listed-length s.count s.bytes.now, ap (λ x. length (texts x)) e), λ test a. ap (λ x. check_each test length c.args.at (texts x)) e)
