-- The image of a page in range is good, and page and image give each other back. Assumes nothing.
use Prim.Native.Nat.{ℕ, ◌≤◌, ◌<◌}
use mathlib.Core.Path.{◌≡◌, refl, sym, ◌∙◌}
use mathlib.Core.Bool.{Bool, true, false, cond}
use mathlib.Core.List.{List, [], ◌∷◌}
use borrow.Author.Tests.{lt-ltb, le-leb, eq-eqb}
use lib.Dec.{eqb}
use lib.ListN.{get_or}
use Rattle.packet.specs.Packet.{width}
use Rattle.registers.specs.Registers.{spi_selected}
use Rattle.registers.specs.declared.Page.{Page}
use Rattle.settings.specs.Images.{image_mark, good_tail, is_good, spi_byte}
use Rattle.settings.specs.Saved.{ImageGood, PageBack, ImageBack}
use Rattle.settings.proofs.Good.{image_listed, good_size, good_registers_lem, good_tail_lem, tail_range, tail_back, registers_range}

tail_good_lem : (spi configured : Bool) (config size : ℕ) → config ≤ 7 → size < width → good_tail spi (cond spi config 0xFF) (cond spi size 0xFF) (cond spi (image_mark configured) 0xFF) ≡ true
tail_good_lem true true config size h k = simp (le-leb config 7 h, lt-ltb size width k)
tail_good_lem true false config size h k = simp (le-leb config 7 h, lt-ltb size width k)
tail_good_lem false configured config size h k = refl

pub image_good : (p : Page) → ImageGood p
unfolding is_good
image_good p q =
    simp (lt-ltb _ _ q.flag_bits, le-leb _ _ q.one_interface, lt-ltb _ _ q.c_direction, lt-ltb _ _ q.c_latch, eq-eqb _ _ q.d_direction, eq-eqb _ _ q.d_latch, tail_good_lem (spi_selected p.flags) p.configured p.config p.size q.configuration q.size_register)

-- the mark that 05 writes says whether SPI was configured
marked : (configured : Bool) → eqb (image_mark configured) 0x08 ≡ configured
marked true = refl
marked false = refl

pub page_back : (p : Page) → PageBack p
page_back p = record {
  flags = refl;
  ddrb = refl;
  portb = refl;
  ddrc = refl;
  portc = refl;
  ddrd = refl;
  portd = refl;
  with_spi = λ h. (rw h, rw h (marked p.configured), rw h);
  without_spi = λ h. (rw h, rw h, rw h);
}

pub image_back : (i : List ℕ) → ImageBack i
image_back i = record {
  in_range = λ e.
      let t = tail_range (get_or i 7 0) (get_or i 8 0) (get_or i 9 0) (spi_selected (get_or i 0 0)) (good_tail_lem i e) in
      registers_range _ (spi_byte i 8) (spi_byte i 7) _ _ _ _ (good_registers_lem i e) t.0 t.1;
  image = λ e.
      let t = tail_back (get_or i 7 0) (get_or i 8 0) (get_or i 9 0) (spi_selected (get_or i 0 0)) (good_tail_lem i e) in
      (λ k. get_or i 0 0 ∷ get_or i 1 0 ∷ get_or i 2 0 ∷ get_or i 3 0 ∷ get_or i 4 0 ∷ get_or i 5 0 ∷ get_or i 6 0 ∷ t.0 k ∷ t.1 k ∷ t.2 k ∷ []) ∙ sym (image_listed i (good_size i e));
}
