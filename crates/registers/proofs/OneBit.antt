-- A bit that a command sets or clears is that bit, and those below and above it stay. Assumes nothing.
use Prim.Native.Nat.{ℕ, suc, ◌/◌, ◌%◌, ◌^◌, ◌<◌}
use mathlib.Core.Path.{◌≡◌}
use mathlib.Core.Bool.{Bool}
use native.Mathlib.Decide.{dec_lt}
use native.Mathlib.Omega.{arith}
use Rattle.registers.specs.Protected.{bit}
use Rattle.registers.proofs.SameBits.{same_low, same_high}
use Rattle.registers.specs.Bits.{Bit, Three, Four, Five}
use Rattle.registers.specs.Bits.{bit_of, with_bit, bit_number, OneBit}
use Rattle.wire.proofs.Choices.{at_most}

own : (b : Bit) (on : Bool) (x : ℕ) → bit (bit_number b) (with_bit b on x) ≡ bit_of on
own Three on x = omega (arith, at_most on 1)
own Four on x = omega (arith, at_most on 1)
own Five on x = omega (arith, at_most on 1)

below : (b : Bit) (on : Bool) (x : ℕ) → with_bit b on x % 2 ^ bit_number b ≡ x % 2 ^ bit_number b
below Three on x = omega arith
below Four on x = omega arith
below Five on x = omega arith

above : (b : Bit) (on : Bool) (x : ℕ) → with_bit b on x / 2 ^ suc (bit_number b) ≡ x / 2 ^ suc (bit_number b)
above Three on x = omega (arith, at_most on 1)
above Four on x = omega (arith, at_most on 1)
above Five on x = omega (arith, at_most on 1)

pub one_bit : (b : Bit) (on : Bool) (x : ℕ) → OneBit b on x
one_bit b on x = record { own = own b on x; others = λ i n. go i n (dec_lt i (bit_number b)) }
  where
    go : (i : ℕ) → ¬ (i ≡ bit_number b) → Dec (i < bit_number b) → bit i (with_bit b on x) ≡ bit i x
    go i n (yes h) = same_low (with_bit b on x) x (bit_number b) i (below b on x) h
    go i n (no h) = same_high (with_bit b on x) x (suc (bit_number b)) i (above b on x) (omega arith)
