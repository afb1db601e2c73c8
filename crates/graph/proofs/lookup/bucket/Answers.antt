use Rattle.std.proofs.Common.{◌≡◌, ◌%◌, ◌<◌, rules, arith}
use Rattle.std.proofs.lemmas.Fn.{serves_by}
use Rattle.std.proofs.lemmas.List.Folds.{fold_along}
use Rattle.graph.specs.Buckets.{hash_step, bucket_of}
use Rattle.graph.proofs.lookup.bucket.Goals as goal

-- each step gives a number of a bucket
pub fold-requires-clause-callable : goal.fold-requires-clause-callable
fold-requires-clause-callable c = serves_by _ (λ xs p. p.1 < 32749) (λ xs q x v j r. let e : v.1 ≡ hash_step q.1 x.now = search rules in omega (arith, e)) _ _ _ _ (omega arith) (λ xs t q x u y k j. search rules)

pub returns-clause-below : goal.returns-clause-below
returns-clause-below c =
    let e : c.fold.result ≡ bucket_of c.args.key.owner c.args.key.name.now = search rules in
    let below : bucket_of c.args.key.owner c.args.key.name.now < 32749 = fold_along hash_step hash_step (λ h k. h < 32749) (λ h k b l. omega arith) (c.args.key.owner % 32749) (c.args.key.owner % 32749) c.args.key.name.now (omega arith) in
    omega (arith, e, below)
