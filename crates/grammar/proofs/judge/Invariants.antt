-- The loop's invariant: the course over all bytes is the course from here over those that are left.
use Prim.Native.Nat.{◌≤◌, ◌-◌}
use lib.ListN.{length}
use Rattle.grammar.specs.Scanner.{between}
use Rattle.grammar.proofs.Scans.{ReadTo, standing}
use Rattle.grammar.proofs.judge.Given as goal

abbrev pub invariant-loop-i : goal.invariant-loop-i
invariant-loop-i l = (l.i ≤ length l.bytes) × ReadTo l.bytes (between l.initial.at) (standing l.at l.extended) l.i

abbrev pub decreases-loop-i : goal.decreases-loop-i
decreases-loop-i l = length l.bytes - l.i
