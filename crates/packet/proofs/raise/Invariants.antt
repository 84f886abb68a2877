-- The loop's invariant: from the place on the bytes are those of the aligned register.
use mathlib.Core.Path.{◌≡◌}
use mathlib.Core.Bool.{true}
use Prim.Native.Nat.{◌+◌, ◌<◌}
use lib.ListN.{length, get_or, drop}
use Rattle.packet.specs.Packet.{width, register_bytes, aligned}
use Rattle.packet.proofs.raise.Given as goal

abbrev pub invariant-loop-i : goal.invariant-loop-i
invariant-loop-i l = (length l.q ≡ register_bytes) × (l.lower < 256) × (l.lower ≡ get_or l.r (l.i + l.whole) 0) × (drop l.i l.q ≡ drop l.i (aligned width l.n true l.r))
