-- Item after item: reading the rest of the list gives what reading it all gives.
use Prim.Native.Nat.{◌-◌}
use lib.ListN.{length}
use Rattle.text.proofs.Listing.{Listing}
use Rattle.text.proofs.lists.list.Given as goal

abbrev pub invariant-loop-run : goal.invariant-loop-run
invariant-loop-run l = Listing l.text l.at l.initial.body l.from l.body l.p l.size

abbrev pub decreases-loop-run : goal.decreases-loop-run
decreases-loop-run l = length l.text - l.p
