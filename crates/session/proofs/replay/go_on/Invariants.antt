-- Step after step while there is room.
use Prim.Native.Nat.{◌-◌}
use Rattle.session.proofs.Going.{Going}
use Rattle.session.proofs.replay.go_on.Given as goal

abbrev pub invariant-loop-made : goal.invariant-loop-made
invariant-loop-made l = Going l.budget l.session l.initial.cursor l.initial.out l.out l.cursor l.written l.made

abbrev pub decreases-loop-made : goal.decreases-loop-made
decreases-loop-made l = l.budget - l.made
