-- The three low flags. Assumes nothing.
use Prim.Native.Nat.{ℕ, ◌+◌, ◌*◌, ◌/◌, ◌%◌}
use mathlib.Core.Path.{◌≡◌, sym, ap, ◌∙◌}
use native.Mathlib.Omega.{arith}

-- the flags of the three interfaces are the same
pub record SameSelected (f g : ℕ) : Type 0 where
  pub i2c : f % 2 ≡ g % 2
  pub spi : f / 2 % 2 ≡ g / 2 % 2
  pub one_wire : f / 4 % 2 ≡ g / 4 % 2

same_bit : (x d n : ℕ) → x ≡ d * 2 + n → x % 2 ≡ n % 2
same_bit x d n h = omega arith

low_bits : (f : ℕ) → SameSelected f (f % 8)
low_bits f = record {
  i2c = same_bit f (f / 8 * 4) (f % 8) (omega arith);
  spi = same_bit (f / 2) (f / 8 * 2) (f % 8 / 2) (omega arith);
  one_wire = same_bit (f / 4) (f / 8) (f % 8 / 4) (omega arith);
}

-- a command that leaves the three low bits leaves what is selected
pub same_selected : (f g : ℕ) → f % 8 ≡ g % 8 → SameSelected f g
same_selected f g h = record {
  i2c = (low_bits f).i2c ∙ ap (λ (n : ℕ). n % 2) h ∙ sym (low_bits g).i2c;
  spi = (low_bits f).spi ∙ ap (λ (n : ℕ). n / 2 % 2) h ∙ sym (low_bits g).spi;
  one_wire = (low_bits f).one_wire ∙ ap (λ (n : ℕ). n / 4 % 2) h ∙ sym (low_bits g).one_wire;
}
