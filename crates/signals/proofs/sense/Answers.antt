-- What is measured, and the packet register, of the samples from the mark on.
use mathlib.Core.Path.{ap}
use Rattle.signals.specs.Sensed.{sense_of}
use Rattle.signals.proofs.Samples.{wave_from}
use Rattle.signals.proofs.sense.Goals as goal

pub returns : goal.returns
returns c =
    rw (c.measure-m.ensures, c.packet_after-packet.ensures) (ap sense_of (wave_from c.args.page c.args.wave c.args.samples.now c.args.from))
