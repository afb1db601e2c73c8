use Rattle.std.proofs.Common.{◌≡◌, ◌-◌, ◌≤◌, length, drop}
use Rattle.graph.specs.Reading.{first_cursor, scan}
use Rattle.graph.specs.Gathered.{gathered}
use Rattle.graph.specs.Views.{cursor_view, keys}
use Rattle.graph.proofs.reading.first_reading.Given as goal

-- what was gathered, and what is left of the file, make the whole
abbrev pub invariant-loop-found : goal.invariant-loop-found
invariant-loop-found l =
    (l.cursor.start ≤ length l.file)
    × (l.cursor.number ≤ l.cursor.start)
    × (l.cursor.packages ≤ l.cursor.number)
    × (l.cursor.dependencies ≤ l.cursor.number)
    × (l.index.file.now ≡ l.file)
    × (gathered (cursor_view l.cursor (keys l.index)) (scan (cursor_view l.cursor (keys l.index)) (drop l.cursor.start l.file)) ≡ gathered first_cursor (scan first_cursor l.file))

abbrev pub decreases-loop-found : goal.decreases-loop-found
decreases-loop-found l = length l.file - l.cursor.start
