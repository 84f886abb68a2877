-- The part of the session left falls.
use Rattle.session.specs.Runs as runs
use Rattle.vectors.proofs.compare.Given as goal

abbrev pub decreases-loop-cursor : goal.decreases-loop-cursor
decreases-loop-cursor g l = runs.left l.session l.cursor
