-- How long an exchange is. Assumes nothing.
use mathlib.Core.Path.{◌≡◌, refl, ap, ◌∙◌}
use mathlib.Core.Bool.{Bool, true, false}
use mathlib.Core.List.{List}
use Prim.Native.Nat.{ℕ, ◌+◌, ◌*◌, ◌≤◌}
use native.Mathlib.Omega.{arith}
use lib.ListN.{length, length-take}
use Rattle.wire.specs.Action.{bytes_of}
use Rattle.wire.proofs.Actions.{bytes_length}
use Rattle.packet.specs.Register.{bits}
use Rattle.packet.specs.Packet.{order, sent}
use Rattle.packet.proofs.Places.{length_sent}
use Rattle.registers.specs.Registers.{polarity_of, phase_of, high_first, bits_in}
use Rattle.registers.specs.declared.Page.{Page}
use Rattle.lines.proofs.Rows.{each_length}
use Rattle.spi_bus.specs.Spi.{spi_bit, spi_bits, spi_exchange}

-- a bit exchanged is four actions in either phase
four : (polarity : ℕ) (phase : Bool) (b : ℕ) → length (spi_bit polarity phase b) ≡ 4
unfolding spi_bit
four polarity true b = refl
four polarity false b = refl

pub bit_bytes : (polarity : ℕ) (phase : Bool) (b : ℕ) → length (bytes_of (spi_bit polarity phase b)) ≡ 16
bit_bytes polarity phase b = bytes_length (spi_bit polarity phase b) ∙ ap (λ (n : ℕ). 4 * n) (four polarity phase b)

bits_length : (n config : ℕ) (r : List ℕ) → length (spi_bits n config r) ≡ 1 + 4 * length (sent n (high_first config) r)
unfolding spi_bits
bits_length n config r = omega (arith, each_length (spi_bit (polarity_of config) (phase_of config)) 4 (four (polarity_of config) (phase_of config)) (sent n (high_first config) r))

pub exchange_length : (p : Page) → bits_in p ≤ 8 * length p.packet → 1 + 4 * bits_in p ≡ length (spi_exchange p).actions
exchange_length p h = omega (arith, bits_length (bits_in p) p.config p.packet, length_sent (bits_in p) (high_first p.config) p.packet h)

pub exchange_most : (p : Page) → length (spi_exchange p).actions ≤ 1 + 4 * bits_in p
exchange_most p = omega (arith, bits_length (bits_in p) p.config p.packet, length-take (bits_in p) (order (high_first p.config) (bits p.packet)))
