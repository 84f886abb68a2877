-- The part of the file that is left falls.
use Rattle.std.proofs.Common.{length}
use Rattle.scripts.proofs.show_all.Given as goal

abbrev pub decreases-loop-scripts : goal.decreases-loop-scripts
decreases-loop-scripts l = length l.scripts
