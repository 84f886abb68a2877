-- No more differ than were run.
use Rattle.std.proofs.Common.{◌≤◌}
use Rattle.vectors.proofs.run_all.Given as goal

abbrev pub invariant-loop-run : goal.invariant-loop-run
invariant-loop-run g l = l.differ ≤ l.run
