-- The part of the session left falls, and the buffer keeps its length.
use Rattle.std.proofs.Common.{◌≡◌, length}
use Rattle.session.specs.Runs.{left}
use Rattle.vcd.proofs.write_dump.Given as goal

abbrev pub invariant-loop-cursor : goal.invariant-loop-cursor
invariant-loop-cursor l = 4096 ≡ length l.records

abbrev pub decreases-loop-cursor : goal.decreases-loop-cursor
decreases-loop-cursor l = left l.session l.cursor
