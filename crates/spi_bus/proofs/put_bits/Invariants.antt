-- The clock at rest, and then the bits. The invariant of the bytes' loop: what writing the rows of the bits that are left leaves is
-- what writing all of them leaves. Each of the other loops takes on what was owed when it began.
use mathlib.Core.List.{List}
use Prim.Native.Nat.{ℕ, ◌+◌, ◌*◌, ◌≤◌}
use lib.ListN.{length}
use Rattle.wire.specs.Action.{bytes_of}
use Rattle.packet.specs.Packet.{sent}
use Rattle.lines.specs.Lines.{for_each}
use Rattle.spi_bus.specs.Spi.{spi_bit}
use Rattle.lines.proofs.Rows.{Owed}
use Rattle.spi_bus.proofs.put_bits.Given as goal

abbrev pub invariant-loop-j : goal.invariant-loop-j
invariant-loop-j l =
    (l.at ≤ length l.out)
    × ((xs : List ℕ) (start : ℕ) → Owed (spi_bit l.polarity l.phase) (sent l.n l.high l.r) xs start (8 * l.k) l.initial.out l.initial.at → Owed (spi_bit l.polarity l.phase) (sent l.n l.high l.r) xs start (8 * l.k + l.j) l.out l.at)

abbrev pub invariant-loop-k : goal.invariant-loop-k
invariant-loop-k l =
    (l.initial.at + length (bytes_of (for_each (spi_bit l.polarity l.phase) (sent l.n l.high l.r))) ≤ length l.initial.out)
    × Owed (spi_bit l.polarity l.phase) (sent l.n l.high l.r) l.initial.out l.initial.at (8 * l.k) l.out l.at

abbrev pub invariant-loop-i : goal.invariant-loop-i
invariant-loop-i l =
    (l.at ≤ length l.out)
    × ((xs : List ℕ) (start : ℕ) → Owed (spi_bit l.polarity l.phase) (sent l.n l.high l.r) xs start l.initial.i l.initial.out l.initial.at → Owed (spi_bit l.polarity l.phase) (sent l.n l.high l.r) xs start l.i l.out l.at)
