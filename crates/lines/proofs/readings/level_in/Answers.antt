-- The level at the place of the step.
use mathlib.Core.Path.{sym, ap, ◌∙◌}
use Prim.Native.Nat.{ℕ}
use native.Mathlib.Nat.{zero-add}
use lib.ListN.{get_or}
use Rattle.wire.specs.Sample.{level_at}
use Rattle.wire.proofs.Samples.{level_bit}
use Rattle.packet.proofs.Places.{order_at}
use Rattle.lines.specs.Lines.{levels}
use Rattle.lines.proofs.Levels.{levels_at, length_levels}
use Rattle.lines.proofs.readings.level_in.Goals as goal

pub returns : goal.returns
returns c =
    let n = c.args.n in
    let ls = levels c.args.samples.now 0 n in
    (c.level_at.ensures ∙ ap (level_at c.args.samples.now) (sym (zero-add _)) ∙ levels_at _ 0 n _ c.place_of-place.ensures.1 ∙ ap (λ (k : ℕ). get_or ls k 0) c.place_of-place.ensures.0 ∙ order_at c.args.high n ls c.args.i (length_levels _ _ n) c.requires, rw c.level_at.ensures (level_bit _))
