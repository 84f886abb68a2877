-- The loop's invariant: what writing the rows of the bits that are left leaves is what writing all of them leaves.
use Prim.Native.Nat.{◌≤◌}
use lib.ListN.{length}
use Rattle.packet.specs.Register.{byte_bits}
use Rattle.i2c_bus.specs.I2c.{i2c_bit}
use Rattle.lines.proofs.Rows.{Owed}
use Rattle.i2c_bus.proofs.put_bits.Given as goal

abbrev pub invariant-loop-i : goal.invariant-loop-i
invariant-loop-i l = (l.at ≤ length l.out) × Owed i2c_bit (byte_bits l.byte) l.initial.out 0 l.i l.out l.at
