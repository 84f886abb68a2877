-- A waveform uses the samples that its actions take, and reads no others. Assumes nothing.
use Prim.Native.Nat.{ℕ, ◌+◌, ◌-◌}
use mathlib.Core.Path.{◌≡◌, refl, ap, ◌∙◌}
use mathlib.Core.List.{List}
use native.Mathlib.Nat.{zero-add, le_of_eq}
use native.Mathlib.Omega.{arith}
use lib.ListN.{length, get_or, take, drop, length-drop}
use lib.Seq.{take_all}
use Rattle.std.proofs.lemmas.List.{get_or-drop}
use borrow.Author.Tests.{eqb-true}
use Rattle.wire.specs.Action.{release, drive_high}
use Rattle.wire.specs.Sample.{samples_in, samplings}
use Rattle.registers.specs.declared.Page.{Page}
use Rattle.lines.specs.Waves.{LineWave}
use Rattle.lines.proofs.Samples as lines
use Rattle.i2c_bus.proofs.Samples as i2c
use Rattle.spi_bus.specs.Spi.{spi_exchange}
use Rattle.spi_bus.proofs.Samples as spi
use Rattle.one_wire_bus.proofs.Samples as one_wire
use Rattle.signals.specs.Waveforms.{Waveform, Still, Reinit, ReinitHigh, Line, Port, PortPulse, Pb7Pulse, SampleLine, SamplePort, Start, Stop, WriteI2c, ReadI2c, Exchange, ResetOneWire, WriteOneWire, WriteOneWireBit, WriteOneWireStrong, ReadOneWire, ReadOneWireBit, leaving, keeping, wave_of}
use Rattle.signals.specs.Samples.{WaveTakes, WaveSame}

pub wave_takes : (p : Page) (w : Waveform) (ss : List ℕ) (m : ℕ) → WaveTakes p w ss m
unfolding wave_of samplings
wave_takes p Still ss m h = refl
wave_takes p Reinit ss m h = refl
wave_takes p (ReinitHigh line) ss m h = refl
wave_takes p (Line verb line) ss m h = omega (arith, eqb-true (samples_in verb) 0 h.verb)
wave_takes p (Port verb line x) ss m h = omega (arith, eqb-true (samples_in verb) 0 h.verb)
wave_takes p (PortPulse line x verb n y) ss m h = omega (arith, eqb-true (samples_in verb) 0 h.verb)
wave_takes p (Pb7Pulse verb n) ss m h = omega (arith, eqb-true (samples_in verb) 0 h.verb)
wave_takes p (SampleLine line) ss m h = refl
wave_takes p (SamplePort line) ss m h = refl
wave_takes p Start ss m h = refl
wave_takes p Stop ss m h = refl
wave_takes p (WriteI2c x) ss m h = i2c.write_takes x ss m
wave_takes p (ReadI2c answer) ss m h = i2c.read_takes answer ss m
wave_takes p Exchange ss m h = spi.exchange_takes p (omega (arith, h.bits, h.register))
wave_takes p ResetOneWire ss m h = one_wire.reset_takes p.timings ss m
wave_takes p (WriteOneWire x) ss m h = one_wire.write_takes p.timings 8 release x refl
wave_takes p (WriteOneWireBit x) ss m h = one_wire.write_takes p.timings 1 release x refl
wave_takes p (WriteOneWireStrong x) ss m h = one_wire.write_takes p.timings 8 drive_high x refl
wave_takes p ReadOneWire ss m h = one_wire.read_takes p.timings ss m
wave_takes p ReadOneWireBit ss m h = one_wire.read_bit_takes p.timings ss m

-- THE SAME SAMPLES

kept : (p : Page) {v w : LineWave} → v ≡ w → keeping p v ≡ keeping p w
kept p e = ap (keeping p) e

pub wave_same : (p : Page) (w : Waveform) (ss : List ℕ) (m : ℕ) (us : List ℕ) (k : ℕ) → WaveSame p w ss m us k
unfolding wave_of
wave_same p Still ss m us k h = refl
wave_same p Reinit ss m us k h = refl
wave_same p (ReinitHigh line) ss m us k h = refl
wave_same p (Line verb line) ss m us k h = refl
wave_same p (Port verb line x) ss m us k h = refl
wave_same p (PortPulse line x verb n y) ss m us k h = refl
wave_same p (Pb7Pulse verb n) ss m us k h = refl
wave_same p (SampleLine line) ss m us k h = kept p (lines.once_same _ ss m us k h)
wave_same p (SamplePort line) ss m us k h = kept p (lines.once_same _ ss m us k h)
wave_same p Start ss m us k h = refl
wave_same p Stop ss m us k h = refl
wave_same p (WriteI2c x) ss m us k h = kept p (i2c.write_same x ss m us k h)
wave_same p (ReadI2c answer) ss m us k h = kept p (i2c.read_same answer ss m us k h)
wave_same p Exchange ss m us k h = ap (λ (r : List ℕ). leaving r (spi_exchange p)) (spi.packet_same p ss m us k h)
wave_same p ResetOneWire ss m us k h = kept p (one_wire.reset_same p.timings ss m us k h)
wave_same p (WriteOneWire x) ss m us k h = refl
wave_same p (WriteOneWireBit x) ss m us k h = refl
wave_same p (WriteOneWireStrong x) ss m us k h = refl
wave_same p ReadOneWire ss m us k h = kept p (one_wire.read_same p.timings ss m us k h)
wave_same p ReadOneWireBit ss m us k h = kept p (one_wire.read_bit_same p.timings ss m us k h)

-- the samples from a mark on, lent by themselves
pub wave_from : (p : Page) (w : Waveform) (ss : List ℕ) (m : ℕ) → wave_of p w (take (length ss - m) (drop m ss)) 0 ≡ wave_of p w ss m
wave_from p w ss m =
    let all = take_all (length ss - m) (drop m ss) (le_of_eq (length-drop m ss)) in
    wave_same p w _ 0 ss m (λ i l. ap (λ (us : List ℕ). get_or us (0 + i) 0) all ∙ get_or-drop m ss (0 + i) 0 ∙ ap (λ (k : ℕ). get_or ss (m + k) 0) (zero-add i))
