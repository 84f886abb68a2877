-- An exchange gives another packet register, and no other waveform does.
use borrow.Enum.Refused.{opened}
use mathlib.Core.Path.{sym, ap, ◌∙◌}
use Rattle.signals.specs.Waveforms.{Waveform, wave_of}
use Rattle.signals.proofs.Packets.{packet_kept}
use Rattle.signals.proofs.packet_after.Goals as goal

pub returns-in-Exchange : goal.returns-in-Exchange
unfolding wave_of
returns-in-Exchange c =
    c.packet_after.ensures ∙ sym (ap (λ (w : Waveform). (wave_of c.args.page w c.args.samples.now 0).packet) c.in-Exchange.is)

pub returns-in_default : goal.returns-in_default
unfolding wave_of
returns-in_default c =
    packet_kept c.args.page c.args.wave c.args.samples.now 0 (opened c.in_default.in_default-own.keys2)
