-- A bit is put, and those above it are left.
use mathlib.Core.Path.{sym, ◌∙◌}
use Prim.Native.Nat.{◌-◌}
use native.Mathlib.Omega.{arith}
use Rattle.value_changes.specs.Collected.{contents}
use Rattle.value_changes.proofs.Collecting.{bits_from, no_bits}
use Rattle.value_changes.proofs.Collected.put_bits.Goals as goal

pub loop-number-preserved : goal.loop-number-preserved
loop-number-preserved c =
    let l = c.loop-number in
    (c.put_bit.ensures.same_buffer ∙ l.invariant.0, bits_from (contents l.self) (contents c.put_bit.new.self) l.number l.before l.after c.args.identifier (omega arith) c.put_bit.ensures.collected ∙ l.invariant.1)

pub returns-clause-collected : goal.returns-clause-collected
returns-clause-collected c =
    let l = c.loop-number in
    sym (no_bits (contents l.self) l.number l.before l.after c.args.identifier (0x38 - l.number) (omega arith)) ∙ l.invariant.1
