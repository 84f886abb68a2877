-- Line after line: reading the rest of the script gives what reading it all gives.
use Prim.Native.Nat.{◌-◌}
use lib.ListN.{length}
use Rattle.script.proofs.Assembling.{Assembling}
use Rattle.script.proofs.assemble.Given as goal

abbrev pub invariant-loop-at : goal.invariant-loop-at
invariant-loop-at l = Assembling l.text l.initial.out l.out l.g l.at l.size

abbrev pub decreases-loop-at : goal.decreases-loop-at
decreases-loop-at l = length l.text - l.at
