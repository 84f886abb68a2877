-- The low bits are written.
use mathlib.Core.Path.{◌≡◌}
use Rattle.value_changes.proofs.Collecting.{filled}
use Rattle.value_changes.proofs.Collected.put_register.Given as goal

abbrev pub invariant-loop-bit : goal.invariant-loop-bit
invariant-loop-bit l = l.row ≡ filled l.bit l.byte l.identifier
