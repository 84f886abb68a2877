-- The part of the session left falls, and the buffer keeps its length.
use Rattle.std.proofs.Common.{◌≡◌, length}
use Rattle.session.specs.Runs.{left}
use Rattle.transcript.specs.Transcript.{most_output}
use Rattle.view.proofs.walk.show.Given as goal

abbrev pub invariant-loop-cursor : goal.invariant-loop-cursor
invariant-loop-cursor l = most_output ≡ length l.out

abbrev pub decreases-loop-cursor : goal.decreases-loop-cursor
decreases-loop-cursor l = left l.session l.cursor
