use Rattle.std.proofs.Common.{rules}
use Rattle.records.proofs.Cuts.{inside-ends, inside-goes, frame-goes}
use Rattle.records.proofs.frames.first_frame.Goals as goal

pub returns-in_err-kind : goal.returns-in_err-kind
returns-in_err-kind c = search (rules, inside-ends, frame-goes)

pub returns : goal.returns
returns c = search (rules, inside-goes, frame-goes)
