-- The waveforms of 1-Wire use the samples that they take, and read no others. Assumes nothing.
use Prim.Native.Nat.{ℕ, ◌-◌}
use mathlib.Core.Path.{◌≡◌, refl, sym}
use mathlib.Core.Bool.{false}
use mathlib.Core.List.{List}
use native.Mathlib.Omega.{arith}
use lib.ListN.{get_or, take}
use Rattle.wire.specs.Action.{release}
use Rattle.wire.specs.Sample.{samples_in, samplings}
use Rattle.wire.proofs.Samples.{samplings_append}
use Rattle.packet.specs.Register.{zeros}
use Rattle.lines.specs.Lines.{for_each}
use Rattle.lines.specs.Waves.{UsesTaken, ReadsUsed}
use Rattle.lines.proofs.Samples.{bit_samples, each_samples, once_same, eight_same}
use Rattle.one_wire_bus.specs.declared.Waits.{Waits}
use Rattle.one_wire_bus.specs.OneWire.{reset_waits, write_waits, read_waits, sample_slot, write_slot, low_first, write_slots, one_wire_reset, one_wire_write, one_wire_read, one_wire_read_bit}

slot_takes : (w : Waits) → samplings (sample_slot w) ≡ 1
unfolding samplings
slot_takes w = refl

pub reset_takes : (ts ss : List ℕ) (s : ℕ) → UsesTaken (one_wire_reset ts ss s)
reset_takes ts ss s = sym (slot_takes (reset_waits ts))

pub read_takes : (ts ss : List ℕ) (s : ℕ) → UsesTaken (one_wire_read ts ss s)
read_takes ts ss s = omega (arith, each_samples (λ _. sample_slot (read_waits ts)) 1 (λ _. slot_takes (read_waits ts)) (zeros 8))

pub read_bit_takes : (ts ss : List ℕ) (s : ℕ) → UsesTaken (one_wire_read_bit ts ss s)
read_bit_takes ts ss s = sym (slot_takes (read_waits ts))

bit_takes : (w : Waits) (fifth : ℕ) → samples_in fifth ≡ 0 → (b : ℕ) → samplings (write_slot w fifth b) ≡ 0
unfolding samplings
bit_takes w fifth h b = omega (arith, bit_samples release b refl)

pub write_takes : (ts : List ℕ) (n fifth byte : ℕ) → samples_in fifth ≡ 0 → UsesTaken (one_wire_write ts n fifth byte)
unfolding write_slots
write_takes ts n fifth byte h =
    let w = write_waits ts in
    let bs = take (n - 1) (low_first byte) in
    let last = get_or (low_first byte) (n - 1) 0 in
    omega (arith, samplings_append (for_each (write_slot w release) bs) (write_slot w fifth last), each_samples (write_slot w release) 0 (bit_takes w release refl) bs, bit_takes w fifth h last)

-- THE SAME SAMPLES

pub reset_same : (ts ss : List ℕ) (m : ℕ) (us : List ℕ) (k : ℕ) → ReadsUsed (one_wire_reset ts) ss m us k
reset_same ts = once_same _

pub read_same : (ts ss : List ℕ) (m : ℕ) (us : List ℕ) (k : ℕ) → ReadsUsed (one_wire_read ts) ss m us k
read_same ts = eight_same false _

pub read_bit_same : (ts ss : List ℕ) (m : ℕ) (us : List ℕ) (k : ℕ) → ReadsUsed (one_wire_read_bit ts) ss m us k
read_bit_same ts = once_same _
