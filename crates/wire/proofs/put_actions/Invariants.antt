-- The loop's invariant: the actions so far are written.
use mathlib.Core.Path.{◌≡◌}
use Prim.Native.Nat.{◌*◌, ◌≤◌}
use lib.ListN.{length, take}
use Rattle.wire.specs.Action.{bytes_of}
use Rattle.wire.specs.Buffer.{Written}
use Rattle.wire.proofs.put_actions.Given as goal

abbrev pub invariant-loop-a : goal.invariant-loop-a
invariant-loop-a l = (l.at ≡ 4 * l.a-index) × (l.at ≤ length l.out) × Written l.initial.out 0 (bytes_of (take l.a-index l.row)) l.out l.at
