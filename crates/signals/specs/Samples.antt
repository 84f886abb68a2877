-- Samples used are samples taken (01, "What goes in and comes out"): "The answer carries three counts: samples used, ..".
use Rattle.std.specs.Prelude.{ℕ, ◌<◌, ◌≡◌, Bool, true, List, eqb, length}
use Rattle.packet.specs.Packet.{width, register_bytes}
use Rattle.registers.specs.declared.Page.{Page}
use Rattle.wire.specs.Sample.{samples_in, samplings, SameFrom}
use Rattle.signals.specs.Waveforms.{Waveform, Still, Reinit, ReinitHigh, Line, Port, PortPulse, Pb7Pulse, SampleLine, SamplePort, Start, Stop, WriteI2c, ReadI2c, Exchange, ResetOneWire, WriteOneWire, WriteOneWireBit, WriteOneWireStrong, ReadOneWire, ReadOneWireBit, wave_of}

-- the verb that a waveform carries, if it carries one, samples nothing
abbrev pub steady : Waveform → Bool
steady Still = true
steady Reinit = true
steady (ReinitHigh line) = true
steady (Line verb line) = eqb (samples_in verb) 0
steady (Port verb line x) = eqb (samples_in verb) 0
steady (PortPulse line x verb n y) = eqb (samples_in verb) 0
steady (Pb7Pulse verb n) = eqb (samples_in verb) 0
steady (SampleLine line) = true
steady (SamplePort line) = true
steady Start = true
steady Stop = true
steady (WriteI2c x) = true
steady (ReadI2c answer) = true
steady Exchange = true
steady ResetOneWire = true
steady (WriteOneWire x) = true
steady (WriteOneWireBit x) = true
steady (WriteOneWireStrong x) = true
steady ReadOneWire = true
steady ReadOneWireBit = true

-- a waveform as a decision has it, on a page of sizes in range
pub record Allowed (p : Page) (w : Waveform) : Type 0 where
  pub verb : steady w ≡ true
  pub bits : p.size < width
  pub register : length p.packet ≡ register_bytes

-- THEOREM (proofs/Samples.antt, `wave_takes`): a waveform uses as many samples as it has actions that sample
abbrev pub WaveTakes : Page → Waveform → List ℕ → ℕ → Type 0
WaveTakes p w ss m = Allowed p w → (wave_of p w ss m).used ≡ samplings (wave_of p w ss m).actions

-- THEOREM (proofs/Samples.antt, `wave_same`): samples that agree on the used places from the mark on give the same waveform
abbrev pub WaveSame : Page → Waveform → List ℕ → ℕ → List ℕ → ℕ → Type 0
WaveSame p w ss m us k = SameFrom (wave_of p w ss m).used ss m us k → wave_of p w ss m ≡ wave_of p w us k
