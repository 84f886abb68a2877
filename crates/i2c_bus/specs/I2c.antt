-- The waveforms of I2C (01, "I2C"); where samples are used, with those from place s on.
use Rattle.std.specs.Prelude.{ℕ, true, List, [], ◌∷◌, ◌++◌}
use Rattle.wire.specs.Action.{Action, scl, sda}
use Rattle.packet.specs.Register.{byte_bits, zeros}
use Rattle.lines.specs.Lines.{released, low, sampled, low_or_released, for_each}
use Rattle.lines.specs.Waves.{LineWave, quiet, once, eight}

-- 20: "SDA release, SCL release, SDA low, SCL low"
abbrev pub i2c_start : LineWave
i2c_start = quiet (released sda ∷ released scl ∷ low sda ∷ low scl ∷ [])

-- 21: "SDA low, SCL release, SDA release"
abbrev pub i2c_stop : LineWave
i2c_stop = quiet (low sda ∷ released scl ∷ released sda ∷ [])

-- a bit: "SDA low or release, SCL release, SCL low"
abbrev pub i2c_bit : ℕ → List Action
i2c_bit b = low_or_released sda b ∷ released scl ∷ low scl ∷ []

-- "SDA release, SCL release, sample SDA, SCL low"
abbrev pub i2c_sampled : List Action
i2c_sampled = released sda ∷ released scl ∷ sampled sda ∷ low scl ∷ []

-- 22's operand: "high bit first .. then" the acknowledge is sampled
abbrev pub write_actions : ℕ → List Action
write_actions byte = for_each i2c_bit (byte_bits byte) ++ i2c_sampled

abbrev pub i2c_write : ℕ → List ℕ → ℕ → LineWave
i2c_write byte ss s = once (write_actions byte) ss s

-- 23, 24: "eight times" sampled, "then a bit of the first form, low for 23, release for 24"; "first sample highest"
abbrev pub read_actions : ℕ → List Action
read_actions answer = for_each (λ _. i2c_sampled) (zeros 8) ++ i2c_bit answer

abbrev pub i2c_read : ℕ → List ℕ → ℕ → LineWave
i2c_read answer ss s = eight true (read_actions answer) ss s
