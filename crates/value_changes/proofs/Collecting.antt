-- Rows collected one after another, and the bits of a register. Assumes nothing.
use Prim.Native.Nat.{ℕ, zero, suc, ◌+◌, ◌-◌, ◌/◌, ◌^◌, ◌<◌}
use mathlib.Core.Path.{◌≡◌, refl, sym}
use mathlib.Core.List.{List, [], ◌∷◌, ◌++◌}
use native.Mathlib.Omega.{arith}
use native.Mathlib.Numerals.{add-one}
use Rattle.std.specs.Prelude.{set}
use Rattle.value_changes.specs.Collected.{collect, collect_all}
use Rattle.value_changes.specs.Rows.{newline, digit_of, register_row, bit_row, bit_rows}

collect_append : (c : List ℕ × ℕ) (rows more : List (List ℕ)) → collect_all c (rows ++ more) ≡ collect_all (collect_all c rows) more
collect_append c [] more = refl
collect_append c (row ∷ rows) more = collect_append (collect c row) rows more

-- a register's bit, and then those above it
pub bits_from : (c d : List ℕ × ℕ) (number old new identifier : ℕ) → number < 0x38 → d ≡ collect_all c (bit_row old new identifier number)
    → collect_all d (bit_rows (0x38 - (number + 1)) (number + 1) (old / 2) (new / 2) identifier) ≡ collect_all c (bit_rows (0x38 - number) number old new identifier)
unfolding bit_rows
bits_from c d number old new identifier h e =
    let k : 0x38 - number ≡ suc (0x38 - (number + 1)) = omega arith in
    rw (k, e) (sym (collect_append c (bit_row old new identifier number) (bit_rows (0x38 - (number + 1)) (number + 1) (old / 2) (new / 2) identifier)))

pub no_bits : (c : List ℕ × ℕ) (number old new identifier left : ℕ) → left ≡ 0 → collect_all c (bit_rows left number old new identifier) ≡ c
unfolding bit_rows
no_bits c number old new identifier left e = rw e

-- a register's row with so many bits written, the low ones first
unfoldable pub filled : ℕ → ℕ → ℕ → List ℕ
filled zero byte identifier = 0x62 ∷ 0x30 ∷ 0x30 ∷ 0x30 ∷ 0x30 ∷ 0x30 ∷ 0x30 ∷ 0x30 ∷ 0x30 ∷ 0x20 ∷ identifier ∷ newline ∷ []
filled (suc n) byte identifier = set (filled n byte identifier) (8 - n) (digit_of (byte / 2 ^ n))

pub one_more : (n byte identifier : ℕ) {row : List ℕ} → row ≡ filled n byte identifier → set row (8 - n) (digit_of (byte / 2 ^ n)) ≡ filled (n + 1) byte identifier
unfolding filled
one_more n byte identifier e = rw (e, add-one n)

pub all_filled : (n byte identifier : ℕ) → n ≡ 8 → filled n byte identifier ≡ register_row byte identifier
unfolding filled
all_filled n byte identifier e =
    let d : byte / 1 ≡ byte = omega arith in
    rw (e, d)
