-- The bridge of switch-on with no stored image, whatever becomes of a buffer.
use mathlib.Core.Path.{refl, ap}
use Rattle.packet.specs.Register.{zeros}
use Rattle.std.proofs.Common.{[]}
use Rattle.switch_on.specs.SwitchOn.{Switched}
use Rattle.switch_on.proofs.SwitchOutcomes.{refuse, goes_on}
use Rattle.switch_on.proofs.from_factory.Goals as goal

pub returns-in-Err : goal.returns-in-Err
returns-in-Err c =
    ap (λ (x : Switched). x.answer.bridge) (refuse [] c.args.factory.now c.args.device (zeros 28) 0 c.in-Err.ensures.off.0 c.refused.ensures c.in-Err.ensures.off.1)

pub returns : goal.returns
returns c =
    ap (λ (x : Switched). x.answer.bridge) (goes_on [] c.args.factory.now c.args.device (zeros 28) 0 c.in-Ok.ensures.on.0 c.in-Ok.ensures.on.1 c.page.ensures refl c.eprom-eprom.ensures c.state-s.ensures refl)
