-- The loop's invariant: from the place on the bytes are those of the register that 01 has received, which is the shift register's.
use mathlib.Core.Path.{◌≡◌}
use Prim.Native.Nat.{◌-◌, ◌*◌}
use lib.ListN.{length, drop}
use Rattle.packet.specs.Register.{register}
use Rattle.packet.specs.Packet.{width, register_bytes, bits_received}
use Rattle.lines.specs.Lines.{levels}
use Rattle.spi_bus.proofs.exchange.Given as goal

abbrev pub invariant-loop-i : goal.invariant-loop-i
invariant-loop-i l = (length l.q ≡ register_bytes) × (l.end ≡ 8 * l.i - (width - l.n)) × (drop l.i l.q ≡ drop l.i (register register_bytes (bits_received width l.high (levels l.samples 0 l.n))))
