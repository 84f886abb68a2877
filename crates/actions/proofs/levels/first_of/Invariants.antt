-- What is found in the actions left is what is found in all.
use mathlib.Core.Path.{◌≡◌}
use lib.ListN.{length}
use Rattle.actions.specs.Reading.{actions_in}
use Rattle.actions.specs.Levels.{first_of}
use Rattle.actions.proofs.levels.first_of.Given as goal

abbrev pub invariant-loop-bytes : goal.invariant-loop-bytes
invariant-loop-bytes l = first_of l.line l.least l.most l.waited (actions_in l.left) ≡ first_of l.line l.least l.most 0 (actions_in l.actions)

abbrev pub decreases-loop-bytes : goal.decreases-loop-bytes
decreases-loop-bytes l = length l.left
