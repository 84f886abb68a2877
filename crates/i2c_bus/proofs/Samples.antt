-- The waveforms of I2C use the samples that they take, and read no others. Assumes nothing.
use Prim.Native.Nat.{ℕ}
use mathlib.Core.Path.{◌≡◌, refl}
use mathlib.Core.Bool.{true}
use mathlib.Core.List.{List}
use native.Mathlib.Omega.{arith}
use Rattle.wire.specs.Action.{release}
use Rattle.wire.specs.Sample.{samplings}
use Rattle.wire.proofs.Samples.{samplings_append}
use Rattle.packet.specs.Register.{byte_bits, zeros}
use Rattle.lines.specs.Lines.{for_each}
use Rattle.lines.specs.Waves.{UsesTaken, ReadsUsed}
use Rattle.lines.proofs.Samples.{bit_samples, each_samples, once_same, eight_same}
use Rattle.i2c_bus.specs.I2c.{i2c_bit, i2c_sampled, i2c_write, i2c_read}

bit_takes : (b : ℕ) → samplings (i2c_bit b) ≡ 0
unfolding samplings
bit_takes b = omega (arith, bit_samples release b refl)

sampled_takes : samplings i2c_sampled ≡ 1
unfolding samplings
sampled_takes = refl

pub write_takes : (byte : ℕ) (ss : List ℕ) (s : ℕ) → UsesTaken (i2c_write byte ss s)
write_takes byte ss s = omega (arith, samplings_append (for_each i2c_bit (byte_bits byte)) i2c_sampled, each_samples i2c_bit 0 bit_takes (byte_bits byte), sampled_takes)

pub read_takes : (answer : ℕ) (ss : List ℕ) (s : ℕ) → UsesTaken (i2c_read answer ss s)
read_takes answer ss s =
    omega (arith, samplings_append (for_each (λ _. i2c_sampled) (zeros 8)) (i2c_bit answer), each_samples (λ _. i2c_sampled) 1 (λ _. sampled_takes) (zeros 8), bit_takes answer)

-- THE SAME SAMPLES

pub write_same : (byte : ℕ) (ss : List ℕ) (m : ℕ) (us : List ℕ) (k : ℕ) → ReadsUsed (i2c_write byte) ss m us k
write_same byte = once_same _

pub read_same : (answer : ℕ) (ss : List ℕ) (m : ℕ) (us : List ℕ) (k : ℕ) → ReadsUsed (i2c_read answer) ss m us k
read_same answer = eight_same true _
