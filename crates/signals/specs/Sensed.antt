-- For the contracts of what is read before anything is written; 01 does not speak of it.
use Rattle.std.specs.Prelude.{◌*◌, length}
use Rattle.lines.specs.Waves.{LineWave}
use Rattle.signals.specs.Waveforms.{Wave}
pub use Rattle.signals.specs.declared.Sensed.{Sensed}

-- what is known of a waveform: the bytes of its actions, the samples used and what they give
abbrev pub sense_of : Wave → Sensed
sense_of w = record { used = w.used; bytes = 4 * length w.actions; byte = w.byte; packet = w.packet }

-- a waveform without the packet register after it
abbrev pub on_lines : Wave → LineWave
on_lines w = record { actions = w.actions; used = w.used; byte = w.byte }
