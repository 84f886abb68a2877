-- The loop's invariant: what writing the rows that are left leaves is what writing all of them leaves.
use mathlib.Core.List.{List}
use Prim.Native.Nat.{ℕ, ◌≤◌}
use lib.ListN.{length}
use Rattle.wire.specs.Action.{Action}
use Rattle.packet.specs.Register.{zeros}
use Rattle.lines.proofs.Rows.{Owed}
use Rattle.lines.proofs.put_repeated.Given as goal

abbrev pub same : List Action → ℕ → List Action
same row x = row

abbrev pub invariant-loop : goal.invariant-loop
invariant-loop g l = (l.at ≤ length l.out) × Owed (same l.row) (zeros l.times) l.initial.out 0 l.counter l.out l.at
