-- The part of the events that is left falls.
use Rattle.std.proofs.Common.{length}
use Rattle.drive.proofs.drive.Given as goal

abbrev pub decreases-loop-left : goal.decreases-loop-left
decreases-loop-left l = length l.left
