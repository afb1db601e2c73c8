-- An item of no side watches nothing.
use Rattle.std.proofs.Common.{◌≡◌, ℕ, List, None, ap}
use Rattle.graph.specs.Items.{side_of}
use Rattle.graph.specs.Words.{local_count, row_in}
use Rattle.policy.specs.Answers.{Answers}
use Rattle.rulebook.specs.Tables.{seek}
use Rattle.rulebook.specs.Watch.{entry_in}
use Rattle.rulebook.specs.GraphTable.{rule_for, graph_table}
use Rattle.rulebook.proofs.Scans.{first-none}

pub no-side-seek : (answers : Answers) (ws : List ℕ) (i row : ℕ) → side_of (local_count ws) i ≡ None → seek (graph_table answers ws) i row ≡ None
no-side-seek answers ws i row h = first-none _ row _ (λ k. ap (λ o. entry_in (rule_for answers (local_count ws) o (row_in ws k)) i) h)
