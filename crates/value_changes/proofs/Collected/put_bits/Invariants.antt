-- What the bits left add is what all of them add.
use Prim.Native.Nat.{◌-◌}
use mathlib.Core.Path.{◌≡◌}
use Rattle.value_changes.specs.Collected.{collect_all, contents}
use Rattle.value_changes.specs.Rows.{bit_rows}
use Rattle.value_changes.proofs.Collected.put_bits.Given as goal

abbrev pub invariant-loop-number : goal.invariant-loop-number
invariant-loop-number l =
    (l.self.text.ghost_name ≡ l.fn.self.text.ghost_name) × (collect_all (contents l.self) (bit_rows (0x38 - l.number) l.number l.before l.after l.identifier) ≡ collect_all (contents l.fn.self) (bit_rows 8 0x30 l.old l.new l.identifier))
