use Rattle.std.proofs.Common.{◌≡◌, ◌++◌, map, length, take, drop}
use Rattle.session.specs.Held.{state, Keeps}
use Rattle.session.specs.Histories.{call_view, calls_leave, answers_from}
use Rattle.resolver.proofs.call_lists.run_calls.Given as goal

-- the calls that are left make the rest
abbrev pub invariant-loop-k : goal.invariant-loop-k
invariant-loop-k g l =
    let t = g.B.Rulebook.table l.book in
    let rest = map call_view (drop l.k l.calls) in
    (calls_leave (state l.session) t rest ≡ calls_leave (state l.initial.session) t (map call_view l.calls))
    × (take l.k l.answers ++ answers_from (state l.session) t rest ≡ answers_from (state l.initial.session) t (map call_view l.calls))
    × (drop (length l.calls) l.answers ≡ drop (length l.calls) l.initial.answers)
    × Keeps l.initial.session l.session
