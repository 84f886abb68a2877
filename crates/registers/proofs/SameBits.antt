-- A number's bits: those of a part that is the same are the same, and a byte is known by them. Assumes nothing.
use Prim.Native.Nat.{ℕ, ◌+◌, ◌-◌, ◌/◌, ◌%◌, ◌^◌, ◌≤◌, ◌<◌}
use mathlib.Core.Path.{◌≡◌, sym, ap, ◌∙◌}
use native.Mathlib.Omega.{arith}
use lib.ListN.{length, get_or}
use lib.Pow.{field, mod-mod-pow, shr-shr}
use lib.Seq.{ext_get_or}
use Rattle.packet.specs.Register.{byte_bits, number}
use Rattle.packet.proofs.Bytes.{length_byte, byte_at, number_bits}
use Rattle.registers.specs.Protected.{bit}

-- bits below a place
pub same_low : (x y k i : ℕ) → x % 2 ^ k ≡ y % 2 ^ k → i < k → bit i x ≡ bit i y
same_low x y k i e h = sym (field x 1 i) ∙ ap (λ (n : ℕ). n / 2 ^ i) (sym (cut x) ∙ ap (λ (n : ℕ). n % 2 ^ (1 + i)) e ∙ cut y) ∙ field y 1 i
  where
    cut : (n : ℕ) → n % 2 ^ k % 2 ^ (1 + i) ≡ n % 2 ^ (1 + i)
    cut n =
        let s : k ≡ k - (1 + i) + (1 + i) = omega arith in
        ap (λ (j : ℕ). n % 2 ^ j % 2 ^ (1 + i)) s ∙ mod-mod-pow n (k - (1 + i)) (1 + i)

-- bits from a place on
pub same_high : (x y k i : ℕ) → x / 2 ^ k ≡ y / 2 ^ k → k ≤ i → bit i x ≡ bit i y
same_high x y k i e h = ap (λ (n : ℕ). n % 2) (cut x ∙ ap (λ (n : ℕ). n / 2 ^ (i - k)) e ∙ sym (cut y))
  where
    cut : (n : ℕ) → n / 2 ^ i ≡ n / 2 ^ k / 2 ^ (i - k)
    cut n =
        let s : i ≡ k + (i - k) = omega arith in
        ap (λ (j : ℕ). n / 2 ^ j) s ∙ sym (shr-shr n k (i - k))

-- a byte is known by its bits
pub byte_by_bits : (x y : ℕ) → x < 256 → y < 256 → ((i : ℕ) → i < 8 → bit i x ≡ bit i y) → x ≡ y
byte_by_bits x y h k e =
    let same : byte_bits x ≡ byte_bits y = ext_get_or 0 (byte_bits x) (byte_bits y) (length_byte x ∙ sym (length_byte y)) at in
    sym (number_bits x h) ∙ ap (number 0) same ∙ number_bits y k
  where
    at : (i : ℕ) → i < length (byte_bits x) → get_or (byte_bits x) i 0 ≡ get_or (byte_bits y) i 0
    at i l =
        let j : i < 8 = omega (arith, length_byte x) in
        byte_at x i j ∙ e (7 - i) (omega arith) ∙ sym (byte_at y i j)
