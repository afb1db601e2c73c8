use Rattle.std.proofs.Common.{ℕ, ◌-◌, Option, ap, ◌∙◌, subst, rules}
use Rattle.rulebook.specs.declared.entries.WatchEntry.{WatchEntry}
use Rattle.std.specs.declared.ops.Range.{Range}
use Rattle.std.specs.Iterator.Runs.{ItemsCountUp}
use Rattle.std.proofs.iter.runs.Sources.{range_runs}
use Rattle.rulebook.specs.Tables.{first_of}
use Rattle.rulebook.specs.Watch.{entry_in}
use Rattle.rulebook.proofs.Scans.{first-found}
use Rattle.rulebook.proofs.rule_rows.first_entry.Goals as goal

pub returns : goal.returns
returns g c =
    let entry : ℕ → Option WatchEntry = λ k. entry_in (g.R.RuleRows.rule c.args.rows.now k) c.args.item in
    let (p, from, found) = c.find_map.ensures.runs in
    let up : ItemsCountUp p c.args.row c.count.result = subst (λ (s : Range ℕ). ItemsCountUp p s.start s.end) from (range_runs p p.seen) in
    first-found _ _ entry (λ k r q h. search rules) p c.args.row c.count.result up c.find_map.result found
    ∙ ap (λ n. first_of entry c.args.row (n - c.args.row)) c.count.ensures
