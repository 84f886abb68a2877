-- Record after record: reading the rest of the body gives what reading it all gives.
use lib.ListN.{length}
use Rattle.script.proofs.Cutting.{Cutting}
use Rattle.script.proofs.cut.put_records.Given as goal

abbrev pub invariant-loop-out : goal.invariant-loop-out
invariant-loop-out l = Cutting l.kind l.body l.place l.initial.out l.at l.out l.rest l.size

abbrev pub decreases-loop-out : goal.decreases-loop-out
decreases-loop-out l = length l.rest
