-- The loop's invariant: the bytes filled, and those that are to come, make the register.
use mathlib.Core.Path.{◌≡◌}
use mathlib.Core.List.{◌++◌}
use Prim.Native.Nat.{◌-◌}
use lib.ListN.{length, take}
use Rattle.packet.specs.Packet.{register_bytes, from_held}
use Rattle.packet.proofs.load.Given as goal

abbrev pub invariant-loop-i : goal.invariant-loop-i
invariant-loop-i l = (length l.q ≡ register_bytes) × (take l.i l.q ++ from_held (register_bytes - l.i) l.held ≡ from_held register_bytes l.held)
