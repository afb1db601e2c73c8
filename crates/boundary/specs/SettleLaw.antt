-- What settling writes.
use Rattle.std.specs.Prelude.{◌≡◌, ℕ, ◌+◌, List, take, Contains}
use Rattle.policy.specs.Answers.{host_split}
use Rattle.rulebook.specs.GraphTable.{graph_table}
use Rattle.session.specs.Least.{Least}

-- where the answer is k + 1, the first k words are just the items of the least set of the requests, by the graph book of
-- the graph words under host-split
pub record SettleLaw (words requests : List ℕ) (answer : ℕ) (active : List ℕ) : Type 0 where
  pub sound : (k : ℕ) → answer ≡ k + 1 → (i : ℕ) → Contains (take k active) i → Least (graph_table host_split words) requests i
  pub complete : (k : ℕ) → answer ≡ k + 1 → (i : ℕ) → Least (graph_table host_split words) requests i → Contains (take k active) i
