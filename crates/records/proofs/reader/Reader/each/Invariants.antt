use Rattle.std.proofs.Common.{◌≡◌, ◌-◌}
use Rattle.records.specs.Fields.{view, void, text_field}
use Rattle.records.specs.Bodies.{many}
use Rattle.records.proofs.reader.Reader.each.Given as goal

-- what is left to read gives the answer
abbrev pub invariant-loop-i : goal.invariant-loop-i
invariant-loop-i g l = void (many (text_field g.T.FromPiece.reading) (l.count - l._i)) (view l.self) ≡ void (many (text_field g.T.FromPiece.reading) l.count) (view l.initial.self)
