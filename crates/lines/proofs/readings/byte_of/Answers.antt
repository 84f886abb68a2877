-- Eight levels of eight are all of them.
use mathlib.Core.Path.{ap, ◌∙◌}
use native.Mathlib.Omega.{arith}
use lib.Seq.{take_all}
use Rattle.packet.specs.Register.{number}
use Rattle.packet.specs.Packet.{order}
use Rattle.packet.proofs.Places.{length_order}
use Rattle.lines.specs.Lines.{levels}
use Rattle.lines.proofs.Levels.{length_levels}
use Rattle.lines.proofs.readings.byte_of.Goals as goal

pub returns : goal.returns
returns c =
    let ls = levels c.args.samples.now 0 8 in
    c.number_of.ensures
    ∙ ap (number 0) (take_all 8 (order c.args.high ls) (omega (arith, length_order c.args.high ls, length_levels c.args.samples.now 0 8)))
