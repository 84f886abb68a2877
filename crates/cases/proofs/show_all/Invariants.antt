-- The part of the file that is left falls.
use Rattle.std.proofs.Common.{length}
use Rattle.cases.proofs.show_all.Given as goal

abbrev pub decreases-loop-cases : goal.decreases-loop-cases
decreases-loop-cases l = length l.cases
