-- Going on from the line and the column so far gives the place's, and neither is past the bytes read and one.
use Rattle.std.proofs.Common.{◌≡◌, ◌+◌, ◌≤◌, drop}
use Rattle.text.specs.Places.{position_from, position_of}
use Rattle.text.proofs.place.position.Given as goal

abbrev pub invariant-loop-b : goal.invariant-loop-b
invariant-loop-b l =
    record { lines : l.line ≤ l.b-index + 1; columns : l.column ≤ l.b-index + 1; rest : position_from l.line l.column (drop l.b-index l.before) ≡ position_of l.text l.place }
