-- Laws of the levels that samples give, and of the loops that read them in either order. Assumes nothing.
use mathlib.Core.Path.{◌≡◌, refl, ap, ◌∙◌}
use mathlib.Core.List.{List}
use Prim.Native.Nat.{ℕ, zero, suc, ◌+◌, ◌*◌, ◌^◌, ◌≤◌, ◌<◌}
use native.Mathlib.Nat.{add-zero, not-suc-le-zero, pow-suc}
use native.Mathlib.Numerals.{add-one}
use native.Mathlib.Omega.{arith}
use lib.ListN.{length, get_or, drop}
use lib.Pow.{pow_mono}
use lib.Seq.{drop-cons}
use Rattle.wire.specs.Sample.{level_at}
use Rattle.packet.specs.Register.{number}
use Rattle.lines.specs.Lines.{levels}

pub length_levels : (ss : List ℕ) (s n : ℕ) → length (levels ss s n) ≡ n
unfolding levels
length_levels ss s zero = refl
length_levels ss s (suc n) = ap suc (length_levels ss (s + 1) n)

pub levels_at : (ss : List ℕ) (s n i : ℕ) → i < n → level_at ss (s + i) ≡ get_or (levels ss s n) i 0
unfolding levels
levels_at ss s zero i h = absurd (not-suc-le-zero h)
levels_at ss s (suc n) zero h = ap (level_at ss) (add-zero s)
levels_at ss s (suc n) (suc i) h =
    let e : s + suc i ≡ (s + 1) + i = omega arith in
    ap (level_at ss) e ∙ levels_at ss (s + 1) n i (omega arith)

-- A BYTE FROM ITS BITS

-- a turn of the loop that takes the bits of a list into a number
pub number_turn : (v : ℕ) (xs : List ℕ) (i x : ℕ) → i < length xs → x ≡ get_or xs i 0 → number (v * 2 + x) (drop (i + 1) xs) ≡ number v (drop i xs)
unfolding number
number_turn v xs i x h e = rw (e, add-one, drop-cons xs i 0 h)

-- i bits make a number below 2 ^ i
pub number_below : (v i x : ℕ) → v < 2 ^ i → x < 2 → v * 2 + x < 2 ^ (i + 1)
number_below v i x h k =
    let e : 2 ^ (i + 1) ≡ 2 ^ i * 2 = ap (λ (j : ℕ). 2 ^ j) (add-one i) ∙ pow-suc 2 i in
    omega (arith, e)

pub seven_bits : (v i : ℕ) → v < 2 ^ i → i < 8 → v < 128
seven_bits v i h k = let m : 2 ^ i ≤ 2 ^ 7 = pow_mono {j = 7} (omega arith) in omega (arith, m)
