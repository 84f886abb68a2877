-- What is left of the output gets shorter.
use Rattle.std.proofs.Common.{length}
use Rattle.view.proofs.walk.Walk.show_event.Given as goal

abbrev pub decreases-loop-kind : goal.decreases-loop-kind
decreases-loop-kind l = length l.left
