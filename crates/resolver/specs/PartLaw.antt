-- The law of closed target parts: what is active of such a part on the target depends on nothing else.
use Rattle.std.specs.Prelude.{IsTrue, Contains, ◌≡◌, ℕ, ◌<◌, Bool, List}
use Rattle.records.specs.Graphs.{Graph}
use Rattle.graph.specs.Opening.{over}
use Rattle.graph.specs.OpeningLaw.{Opens}
use Rattle.graph.specs.Places.{ItemPlace, unit, dep, feat, item_count}
use Rattle.graph.specs.Words.{graph_words}
use Rattle.lanes.specs.declared.sides.Side.TheVariants.{Target}
use Rattle.policy.specs.Answers.{Answers, LawfulAnswers}
use Rattle.rulebook.specs.GraphTable.{graph_table}
use Rattle.rulebook.specs.GraphRules.{Has, number_on}
use Rattle.session.specs.Histories.{Call, History, history}
use Rattle.session.specs.SessionLaw.{Active}
use Rattle.resolver.specs.Parts.{Agree}

abbrev pub package_of : ItemPlace → ℕ
package_of (unit p) = p
package_of (dep p k) = p
package_of (feat p k) = p

-- an item of the graph whose package is in S
abbrev pub InPart : (ℕ → Bool) → Graph → ItemPlace → Type 0
InPart S g x = Has g x × IsTrue (S (package_of x))

-- the number of an item on the target; these are the numbers below the item count
abbrev pub target_number : Graph → ItemPlace → ℕ
target_number g x = number_on g Target x

-- each target item among xs, in the numbers of g, is one of the part, and is among ys, in the numbers of h
abbrev pub AskedIn : (ℕ → Bool) → Graph → Graph → List ℕ → List ℕ → Type 0
AskedIn S g h xs ys = (i : ℕ) → i < item_count g → Contains xs i → (x : ItemPlace) × InPart S g x × (target_number g x ≡ i) × Contains ys (target_number h x)

-- the accepted target items are the same in both histories, as sets, and all of the part; host items are free
pub record SameAsked (S : ℕ → Bool) (g h : Graph) (a b : History) : Type 0 where
  pub forth : AskedIn S g h a.accepted b.accepted
  pub back : AskedIn S h g b.accepted a.accepted

-- each target item of the part is active in both or in neither
pub record SameActive (S : ℕ → Bool) (g h : Graph) (a b : History) : Type 0 where
  pub forth : (x : ItemPlace) → InPart S g x → Active a (target_number g x) → Active b (target_number h x)
  pub back : (x : ItemPlace) → InPart S g x → Active b (target_number h x) → Active a (target_number g x)

-- settled, what was asked being the same, the same is active
abbrev pub PartKept : (ℕ → Bool) → Graph → Graph → History → History → Type 0
PartKept S g h a b = SameAsked S g h a b → IsTrue a.settled → IsTrue b.settled → SameActive S g h a b

-- so it is for two graphs that opening accepts and that agree on the part, each by its graph book of the words that opening
-- wrote, under the same lawful answers, after any calls on a new session by each book
abbrev pub OpenedPartLaw : Type 0
OpenedPartLaw =
    (answers : Answers) (S : ℕ → Bool) (g h : Graph) (file words other more : List ℕ) → LawfulAnswers answers →
    Opens file words g → Opens other more h → Agree answers S g h →
    (m n : ℕ) (calls others : List Call) →
    PartKept S g h (history (graph_table answers (over (graph_words g) words)) m calls) (history (graph_table answers (over (graph_words h) more)) n others)
