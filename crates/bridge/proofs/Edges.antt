-- P1 to P12, by computation. Assumes nothing.
use mathlib.Core.Path.{refl}
use Rattle.wire.specs.Buffer.{overwrite}
use Rattle.wire.specs.Sample.{level_of}
use Rattle.packet.specs.Register.{byte_bits, bits, number, register}
use Rattle.packet.specs.Packet.{from_held, kept, moved_up}
use Rattle.grammar.specs.Grammar.{commands, extended_commands}
use Rattle.grammar.specs.Scanner.{opening_of, extension_of}
use Rattle.signals.specs.Waveforms.{wave_of}
use Rattle.decisions.specs.Said.{error_after, replies_of}
use Rattle.decisions.specs.Effects.{effect_from}
use Rattle.decisions.specs.Events.{effect_of}
use Rattle.bridge.specs.Answering.{answer_of}
use Rattle.bridge.specs.Judging.{judgement_of}
use Rattle.bridge.specs.Edges.{Edges}

pub edges : Edges
unfolding overwrite level_of byte_bits bits number register from_held kept moved_up commands extended_commands opening_of extension_of wave_of error_after replies_of effect_from effect_of answer_of judgement_of
edges = record { P1 = refl; P2 = refl; P3 = refl; P4 = refl; P5 = refl; P6 = refl; P7 = refl; P8 = refl; P9 = refl; P9-without-last = refl; P10 = refl; P11 = refl; P12 = refl }
