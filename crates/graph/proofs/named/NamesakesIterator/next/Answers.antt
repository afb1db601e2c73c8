use Rattle.std.proofs.Common.{◌≡◌, ◌+◌, ◌-◌, ◌∷◌, length, get_or, Some, sym, ap, ◌∙◌, arith}
use Rattle.graph.specs.Depending.{depending}
use Rattle.graph.specs.Directory.{no_depending}
use Rattle.graph.specs.Buckets.{past}
use Rattle.graph.specs.RowLists.{its}
use Rattle.graph.specs.Namesakes.{among_from, left, namesake_view}
use Rattle.graph.proofs.FilledTells.{dependencies-told, many-depending, names-count, next-of-name}
use Rattle.graph.proofs.NamesakesLeft.{from_end}
use Rattle.graph.proofs.Steps.{gives-first, goes-nearer}
use Rattle.graph.proofs.Links.{found}
use Rattle.graph.proofs.named.NamesakesIterator.next.Goals as goal

pub older-self-requires-clause-entry : goal.older-self-requires-clause-entry
older-self-requires-clause-entry c = c.args.self.now.keyed c.in_ok-k.k c.in_ok-k.was

pub invariant_of-self : goal.invariant_of-self
invariant_of-self c =
    let s = c.args.self.now in
    let lists = s.filled.directory.now.named.lists in
    let k = s.keyed c.in_ok-k.k c.in_ok-k.was in
    record {
      keyed = λ j is. let f = found lists.entries s.key.owner s.key.name.now c.in_ok-k.k (Some j) (sym is ∙ c.older-self.ensures) in (omega (arith, f.0, k.0), f.1);
      above = s.above;
    }

pub overflow_sub-directory : goal.overflow_sub-directory
overflow_sub-directory c =
    let s = c.args.self.now in
    omega (arith, (s.keyed c.in_ok-k.k c.in_ok-k.was).0, names-count s.filled, many-depending s.filled, dependencies-told s.filled)

pub overflow_sub-directory-2 : goal.overflow_sub-directory-2
overflow_sub-directory-2 c =
    let s = c.args.self.now in
    omega (arith, (s.keyed c.in_ok-k.k c.in_ok-k.was).0, names-count s.filled, many-depending s.filled, dependencies-told s.filled, c.from.ensures)

pub dependency-requires : goal.dependency-requires
dependency-requires c =
    let s = c.args.self.now in
    omega (arith, (s.keyed c.in_ok-k.k c.in_ok-k.was).0, names-count s.filled, many-depending s.filled, dependencies-told s.filled)

-- the dependency at hand, and then those from the next older entry on
opened : (c : goal.After-dependency) → left c.args.self.now ≡ from_end (its c.args.self.now.filled) c.in_ok-k.k ∷ among_from (its c.args.self.now.filled) c.args.self.now.key.owner c.args.self.now.key.name.now (length (depending 0 (its c.args.self.now.filled)) - past c.older-self.result)
opened c =
    let s = c.args.self.now in
    let x = s.filled in
    let k = c.in_ok-k.k in
    let all = depending 0 (its x) in
    let next = next-of-name x s.key.owner s.key.name.now k (s.keyed k c.in_ok-k.was) in
    ap (λ o. among_from (its x) s.key.owner s.key.name.now (length all - past o)) c.in_ok-k.was ∙ next ∙ ap (λ o. from_end (its x) k ∷ among_from (its x) s.key.owner s.key.name.now (length all - past o)) (sym c.older-self.ensures)

pub returns-clause-steps : goal.returns-clause-steps
returns-clause-steps c =
    let s = c.args.self.now in
    let x = s.filled in
    let k = c.in_ok-k.k in
    let all = depending 0 (its x) in
    let i : x.directory.now.counts.dependencies - 1 - c.from.result ≡ length all - 1 - k = omega (arith, many-depending x, dependencies-told x, c.from.ensures) in
    gives-first namesake_view (left s) _ _ (opened c) c.dependency.result (c.dependency.ensures ∙ ap (λ i. Some (length (its x) + i, (get_or all i no_depending).dependency)) i)

pub returns-clause-goes : goal.returns-clause-goes
returns-clause-goes c = goes-nearer left c.args.self.now _ _ (opened c) c.dependency.result
