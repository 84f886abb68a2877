-- The loop's invariant: from the place on the bytes are those of the cleared register.
use mathlib.Core.Path.{◌≡◌}
use Prim.Native.Nat.{◌-◌, ◌*◌}
use lib.ListN.{length, drop}
use Rattle.packet.specs.Packet.{width, register_bytes, cleared}
use Rattle.packet.proofs.clear.Given as goal

abbrev pub invariant-loop-i : goal.invariant-loop-i
invariant-loop-i l = (length l.q ≡ register_bytes) × (l.left ≡ l.n - 8 * (register_bytes - l.i)) × (drop l.i l.q ≡ drop l.i (cleared width l.n l.r))
