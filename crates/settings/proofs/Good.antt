-- What is known of a good image. Assumes nothing.
use Prim.Native.Nat.{ℕ, ◌%◌, ◌≤◌, ◌<◌}
use mathlib.Core.Path.{◌≡◌, refl, sym, ◌∙◌}
use mathlib.Core.Bool.{Bool, true, false, cond, ◌&&◌, ◌||◌}
use mathlib.Core.List.{List}
use native.Mathlib.Omega.{arith}
use borrow.Author.Tests.{ltb-true, leb-true, eqb-true}
use lib.Dec.{eqb, leb, ltb}
use lib.ListN.{get_or, length}
use lib.Seq.{take_all}
use Rattle.packet.specs.Packet.{width}
use Rattle.registers.specs.Registers.{spi_selected, image_bytes}
use Rattle.registers.specs.Ranges.{selected_count, Ranges}
use Rattle.codes.proofs.Both.{both_left, both_right}
use Rattle.settings.proofs.Listed.{listed, front_listed}
use Rattle.settings.specs.Images.{image_mark, good_registers, good_tail, is_good}

-- a list of so many bytes is these bytes, place by place
pub image_listed : (i : List ℕ) → length i ≡ image_bytes → i ≡ listed (λ (k : ℕ). get_or i k 0) image_bytes
image_listed i e = sym (take_all image_bytes i (omega (arith, e))) ∙ front_listed i image_bytes (omega (arith, e))

-- THE PARTS of what is tested
module _ (i : List ℕ) (e : is_good i ≡ true) where
  abbrev registers_good : Bool
  registers_good = good_registers (get_or i 0 0) (get_or i 3 0) (get_or i 4 0) (get_or i 5 0) (get_or i 6 0)

  abbrev tail_good : Bool
  tail_good = good_tail (spi_selected (get_or i 0 0)) (get_or i 7 0) (get_or i 8 0) (get_or i 9 0)

  pub good_size : length i ≡ image_bytes
  unfolding is_good
  good_size = eqb-true (length i) image_bytes (both_left (eqb (length i) image_bytes) (registers_good && tail_good) e)

  rest_good : registers_good && tail_good ≡ true
  unfolding is_good
  rest_good = both_right (eqb (length i) image_bytes) (registers_good && tail_good) e

  pub good_registers_lem : registers_good ≡ true
  good_registers_lem = both_left registers_good tail_good rest_good

  pub good_tail_lem : tail_good ≡ true
  good_tail_lem = both_right registers_good tail_good rest_good

-- THE TAIL, with SPI and without
module _ (config size mark : ℕ) where
  pub tail_range : (spi : Bool) → good_tail spi config size mark ≡ true → (cond spi config 0 ≤ 7) × (cond spi size 0 < width)
  tail_range false e = (omega arith, omega arith)
  tail_range true e =
      let a = both_left (leb config 7 && ltb size width) (eqb mark 0x00 || eqb mark 0x08) e in
      (leb-true config 7 (both_left (leb config 7) (ltb size width) a), ltb-true size width (both_right (leb config 7) (ltb size width) a))

  mark_back : (b : Bool) → eqb mark 0x08 ≡ b → eqb mark 0x00 || b ≡ true → image_mark b ≡ mark
  mark_back true h e = sym (eqb-true mark 0x08 h)
  mark_back false h e = sym (eqb-true mark 0x00 (or_false (eqb mark 0x00) e))
    where
      or_false : (a : Bool) → a || false ≡ true → a ≡ true
      or_false true p = refl
      or_false false p = p

  -- the settings, or FF FF FF without SPI, are the tail again
  pub tail_back : (spi : Bool) → good_tail spi config size mark ≡ true
      → (cond spi (cond spi config 0) 0xFF ≡ config) × (cond spi (cond spi size 0) 0xFF ≡ size) × (cond spi (image_mark (eqb (cond spi mark 0) 0x08)) 0xFF ≡ mark)
  tail_back true e = (refl, refl, mark_back (eqb mark 0x08) refl (both_right (leb config 7 && ltb size width) (eqb mark 0x00 || eqb mark 0x08) e))
  tail_back false e =
      let a = both_left (eqb config 0xFF && eqb size 0xFF) (eqb mark 0xFF) e in (
        sym (eqb-true config 0xFF (both_left (eqb config 0xFF) (eqb size 0xFF) a)),
        sym (eqb-true size 0xFF (both_right (eqb config 0xFF) (eqb size 0xFF) a)),
        sym (eqb-true mark 0xFF (both_right (eqb config 0xFF && eqb size 0xFF) (eqb mark 0xFF) e)),
      )

-- THE REGISTERS are in their ranges
pub registers_range : (flags size config ddrc portc ddrd portd : ℕ) → good_registers flags ddrc portc ddrd portd ≡ true → config ≤ 7 → size < width
    → Ranges flags size config ddrc portc ddrd portd
registers_range flags size config ddrc portc ddrd portd e hc hs =
    let a = ltb flags 32 in
    let b = leb (selected_count flags) 1 in
    let c = ltb ddrc 64 in
    let d = ltb portc 64 in
    let f = eqb (ddrd % 4) 0 in
    let g = eqb (portd % 4) 0 in
    let e5 = both_left (a && b && c && d && f) g e in
    let e4 = both_left (a && b && c && d) f e5 in
    let e3 = both_left (a && b && c) d e4 in
    let e2 = both_left (a && b) c e3 in
    record {
      one_interface = leb-true _ _ (both_right a b e2);
      flag_bits = ltb-true _ _ (both_left a b e2);
      size_register = hs;
      configuration = hc;
      c_direction = ltb-true _ _ (both_right (a && b) c e3);
      c_latch = ltb-true _ _ (both_right (a && b && c) d e4);
      d_direction = eqb-true _ _ (both_right (a && b && c && d) f e5);
      d_latch = eqb-true _ _ (both_right (a && b && c && d && f) g e);
    }
