-- Laws of a byte's bits low bit first, and of how many actions slots are. Assumes nothing.
use mathlib.Core.Path.{◌≡◌, refl, ap, ◌∙◌}
use Prim.Native.Nat.{ℕ, ◌-◌, ◌*◌, ◌/◌, ◌%◌, ◌^◌, ◌≤◌, ◌<◌}
use native.Mathlib.Omega.{arith}
use lib.ListN.{length, get_or, take, length-append, length-reverse}
use lib.Seq.{get_or-take, length-take-le}
use Rattle.wire.specs.Action.{release}
use Rattle.packet.specs.Register.{byte_bits}
use Rattle.packet.proofs.Bytes.{length_byte, byte_at}
use Rattle.packet.proofs.Places.{get_d_reverse}
use Rattle.lines.specs.Lines.{for_each}
use Rattle.lines.proofs.Rows.{each_length}
use Rattle.one_wire_bus.specs.declared.Waits.{Waits}
use Rattle.one_wire_bus.specs.OneWire.{write_slot, low_first, write_slots}

pub low_at : (byte i : ℕ) → i < 8 → get_or (low_first byte) i 0 ≡ byte / 2 ^ i % 2
low_at byte i h =
    let e : length (byte_bits byte) - 1 - i ≡ 7 - i = omega (arith, length_byte byte) in
    let f : 7 - (7 - i) ≡ i = omega arith in
    get_d_reverse (byte_bits byte) i (omega (arith, length_byte byte))
    ∙ ap (λ (j : ℕ). get_or (byte_bits byte) j 0) e
    ∙ byte_at byte (7 - i) (omega arith)
    ∙ ap (λ (j : ℕ). byte / 2 ^ j % 2) f

-- the same of the first n of them
pub low_taken : (n byte i : ℕ) → i < n → n ≤ 8 → get_or (take n (low_first byte)) i 0 ≡ byte / 2 ^ i % 2
low_taken n byte i h k = get_or-take n (low_first byte) i 0 h ∙ low_at byte i (omega arith)

pub length_low : (n byte : ℕ) → n ≤ 8 → length (take n (low_first byte)) ≡ n
length_low n byte k = length-take-le n (low_first byte) (omega (arith, length-reverse (byte_bits byte), length_byte byte))

-- n slots, of which the last may end otherwise
pub write_length : (w : Waits) (n fifth byte : ℕ) → 1 ≤ n → n ≤ 8 → n * 6 ≡ length (write_slots w n fifth byte)
unfolding write_slots
write_length w n fifth byte h k =
    let bs = take (n - 1) (low_first byte) in
    omega (arith, length-append (for_each (write_slot w release) bs) (write_slot w fifth (get_or (low_first byte) (n - 1) 0)), each_length (write_slot w release) 6 (λ b. refl) bs, length_low (n - 1) byte (omega arith))
