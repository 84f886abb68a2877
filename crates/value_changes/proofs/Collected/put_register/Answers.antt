-- A bit is written, and then all are.
use mathlib.Core.Path.{refl, ap, ◌∙◌}
use native.Mathlib.Omega.{arith}
use Rattle.value_changes.specs.Collected.{collect, contents}
use Rattle.value_changes.proofs.Collecting.{filled, one_more, all_filled}
use Rattle.value_changes.proofs.Collected.put_register.Goals as goal

pub loop-bit-init : goal.loop-bit-init
unfolding filled
loop-bit-init c = refl

pub loop-bit-preserved : goal.loop-bit-preserved
loop-bit-preserved c = one_more c.loop-bit.bit c.args.byte c.args.identifier c.loop-bit.invariant

pub returns-clause-collected : goal.returns-clause-collected
returns-clause-collected c =
    c.put.ensures.collected ∙ ap (collect (contents c.args.self.now)) (c.loop-bit.invariant ∙ all_filled c.loop-bit.bit c.args.byte c.args.identifier (omega arith))
