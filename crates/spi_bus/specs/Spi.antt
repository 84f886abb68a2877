-- The waveform of SPI (01, "SPI", 46), and the packet register after it.
use Rattle.std.specs.Prelude.{ℕ, ◌-◌, Bool, cond, List, [], ◌∷◌}
use Rattle.wire.specs.Action.{Action, sck, mosi, miso}
use Rattle.packet.specs.Register.{register}
use Rattle.packet.specs.Packet.{width, register_bytes, sent, bits_received}
use Rattle.registers.specs.Registers.{phase_of, polarity_of, high_first, bits_in}
use Rattle.registers.specs.declared.Page.{Page}
use Rattle.lines.specs.Lines.{driven, sampled, for_each, levels}
use Rattle.lines.specs.Waves.{LineWave}

-- "CPHA (bit 0) 0: MOSI, SCK away, sample MISO, SCK back. CPHA 1: SCK away, MOSI, SCK back, sample. Lines are driven."
unfoldable pub spi_bit : ℕ → Bool → ℕ → List Action
spi_bit polarity phase b =
    cond phase
    (driven sck (1 - polarity) ∷ driven mosi b ∷ driven sck polarity ∷ sampled miso ∷ [])
    (driven mosi b ∷ driven sck (1 - polarity) ∷ sampled miso ∷ driven sck polarity ∷ [])

-- "SCK to CPOL (bit 1), then N bits": n bits of a register under a configuration
unfoldable pub spi_bits : ℕ → ℕ → List ℕ → List Action
spi_bits n config r = driven sck (polarity_of config) ∷ for_each (spi_bit (polarity_of config) (phase_of config)) (sent n (high_first config) r)

-- the exchange on a page: a sample for each of the N bits, which give no byte
abbrev pub spi_exchange : Page → LineWave
spi_exchange p = record { actions = spi_bits (bits_in p) p.config p.packet; used = bits_in p; byte = 0 }

-- the packet register after it: what the N samples from place s on give
abbrev pub packet_after : Page → List ℕ → ℕ → List ℕ
packet_after p ss s = register register_bytes (bits_received width (high_first p.config) (levels ss s (bits_in p)))
