-- The actions left get fewer.
use Rattle.std.proofs.Common.{length}
use Rattle.vcd.proofs.dump.Dump.show_event.Given as goal

abbrev pub decreases-loop-bytes : goal.decreases-loop-bytes
decreases-loop-bytes l = length l.left
