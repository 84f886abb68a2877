-- The loop's invariant: what writing the slots of the bits that are left leaves is what writing all of them leaves.
use mathlib.Core.List.{List}
use Prim.Native.Nat.{ℕ, ◌≤◌}
use lib.ListN.{length, take}
use Rattle.wire.specs.Action.{Action, release}
use Rattle.one_wire_bus.specs.OneWire.{write_slot, low_first}
use Rattle.one_wire_bus.specs.declared.Waits.{Waits}
use Rattle.lines.proofs.Rows.{Owed}
use Rattle.one_wire_bus.proofs.put_bits.Given as goal

abbrev pub row : Waits → ℕ → List Action
row w = write_slot w release

abbrev pub invariant-loop-i : goal.invariant-loop-i
invariant-loop-i l = (l.at ≤ length l.out) × Owed (row l.w) (take l.n (low_first l.byte)) l.initial.out 0 l.i l.out l.at
