-- A bit of a register that a command sets or clears (01, "Registers and common commands").
use Rattle.std.specs.Prelude.{ℕ, ◌+◌, ◌*◌, ◌/◌, ◌%◌, ◌≡◌, Bool, cond}
use Rattle.registers.specs.Protected.{bit}
pub use Rattle.registers.specs.declared.Bit.{Bit}
pub use Rattle.registers.specs.declared.Bit.TheVariants.{Three, Four, Five}

abbrev pub weight_of : Bit → ℕ
weight_of Three = 8
weight_of Four = 16
weight_of Five = 32

abbrev pub bit_of : Bool → ℕ
bit_of on = cond on 1 0

-- the bits below and above it stay
abbrev pub with_bit : Bit → Bool → ℕ → ℕ
with_bit b on x = x % weight_of b + bit_of on * weight_of b + x / (weight_of b * 2) * (weight_of b * 2)

-- its number
abbrev pub bit_number : Bit → ℕ
bit_number Three = 3
bit_number Four = 4
bit_number Five = 5

-- THEOREM (proofs/OneBit.antt, `one_bit`): the bit of that number is set or cleared, and every other is the register's
pub record OneBit (b : Bit) (on : Bool) (x : ℕ) : Type 0 where
  pub own : bit (bit_number b) (with_bit b on x) ≡ bit_of on
  pub others : (i : ℕ) → ¬ (i ≡ bit_number b) → bit i (with_bit b on x) ≡ bit i x
