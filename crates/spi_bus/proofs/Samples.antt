-- An exchange uses the samples that it takes, one a bit in either phase, and reads no others. Assumes nothing.
use Prim.Native.Nat.{ℕ, ◌-◌, ◌*◌, ◌≤◌}
use mathlib.Core.Path.{◌≡◌, refl, ap}
use mathlib.Core.Bool.{Bool, true, false}
use mathlib.Core.List.{List}
use native.Mathlib.Omega.{arith}
use lib.ListN.{length}
use Rattle.wire.specs.Action.{drive_high}
use Rattle.wire.specs.Sample.{samplings, SameFrom}
use Rattle.packet.specs.Register.{register}
use Rattle.packet.specs.Packet.{width, register_bytes, sent, bits_received}
use Rattle.packet.proofs.Places.{length_sent}
use Rattle.registers.specs.Registers.{polarity_of, phase_of, high_first, bits_in}
use Rattle.registers.specs.declared.Page.{Page}
use Rattle.lines.specs.Waves.{UsesTaken}
use Rattle.lines.proofs.Samples.{bit_samples, each_samples, levels_same}
use Rattle.spi_bus.specs.Spi.{spi_bit, spi_bits, spi_exchange, packet_after}

bit_takes : (polarity : ℕ) (phase : Bool) (b : ℕ) → samplings (spi_bit polarity phase b) ≡ 1
unfolding spi_bit samplings
bit_takes polarity true b = omega (arith, bit_samples drive_high (1 - polarity) refl, bit_samples drive_high b refl, bit_samples drive_high polarity refl)
bit_takes polarity false b = omega (arith, bit_samples drive_high (1 - polarity) refl, bit_samples drive_high b refl, bit_samples drive_high polarity refl)

pub exchange_takes : (p : Page) → bits_in p ≤ 8 * length p.packet → UsesTaken (spi_exchange p)
unfolding spi_bits samplings
exchange_takes p h =
    let polarity = polarity_of p.config in
    let phase = phase_of p.config in
    let xs = sent (bits_in p) (high_first p.config) p.packet in
    omega (arith, bit_samples drive_high polarity refl, each_samples (spi_bit polarity phase) 1 (bit_takes polarity phase) xs, length_sent (bits_in p) (high_first p.config) p.packet h)

pub packet_same : (p : Page) (ss : List ℕ) (m : ℕ) (us : List ℕ) (k : ℕ) → SameFrom (bits_in p) ss m us k → packet_after p ss m ≡ packet_after p us k
packet_same p ss m us k h = ap (λ (ls : List ℕ). register register_bytes (bits_received width (high_first p.config) ls)) (levels_same (bits_in p) ss us m k h)
