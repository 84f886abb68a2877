-- The bytes left fall.
use Rattle.vectors.proofs.pass_over.Given as goal

abbrev pub decreases-loop-left : goal.decreases-loop-left
decreases-loop-left g l = l.left
