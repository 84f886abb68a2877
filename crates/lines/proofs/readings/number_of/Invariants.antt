-- The loop's invariant: with the levels that are left the number becomes that of them all.
use mathlib.Core.Path.{◌≡◌}
use Prim.Native.Nat.{◌-◌, ◌^◌, ◌≤◌, ◌<◌}
use lib.Seq.{slice}
use Rattle.packet.specs.Register.{number}
use Rattle.packet.specs.Packet.{order}
use Rattle.lines.specs.Lines.{levels}
use Rattle.lines.proofs.readings.number_of.Given as goal

abbrev pub invariant-loop-i : goal.invariant-loop-i
invariant-loop-i l = (l.first ≤ l.i) × (l.v < 2 ^ (l.i - l.first)) × (number l.v (slice l.i l.end (order l.high (levels l.samples 0 l.n))) ≡ number 0 (slice l.first l.end (order l.high (levels l.samples 0 l.n))))
