-- Images of settings: the image of a page, whether an image is good, the page of an image, and the factory image (01, "Registers and
-- common commands", "Switch-on", "Session file").
use Rattle.std.specs.Prelude.{ℕ, ◌%◌, Bool, true, false, cond, ◌&&◌, ◌||◌, List, [], ◌∷◌, eqb, leb, ltb, get_or, length}
use Rattle.packet.specs.Packet.{width, register_bytes}
use Rattle.packet.specs.Register.{zeros}
use Rattle.registers.specs.Registers.{spi_selected, image_bytes}
use Rattle.registers.specs.Ranges.{selected_count}
use Rattle.registers.specs.declared.Page.{Page}

-- THE IMAGE OF A PAGE. 05 stores "ten bytes: COMMON_FLAGS, DDRB, PORTB, DDRC, PORTC, DDRD, PORTD (order H), then CONFIG_SPI, PAKET_SIZE
-- and 08 or 00 for configured, or FF FF FF if SPI isn't selected"
abbrev pub image_tail : ℕ → ℕ → ℕ
image_tail flags x = cond (spi_selected flags) x 0xFF

abbrev pub image_mark : Bool → ℕ
image_mark configured = cond configured 0x08 0x00

abbrev pub image_of : Page → List ℕ
image_of p =
    p.flags ∷ p.ddrb ∷ p.portb ∷ p.ddrc ∷ p.portc ∷ p.ddrd ∷ p.portd
    ∷ image_tail p.flags p.config ∷ image_tail p.flags p.size ∷ image_tail p.flags (image_mark p.configured) ∷ []

-- WHETHER AN IMAGE IS GOOD (01, "Switch-on"): "flag bits 5 to 7 zero, at most one interface, C bits 6, 7 and D bits 0, 1 zero"
abbrev pub good_registers : ℕ → ℕ → ℕ → ℕ → ℕ → Bool
good_registers flags ddrc portc ddrd portd =
    ltb flags 32 && leb (selected_count flags) 1 && ltb ddrc 64 && ltb portc 64 && eqb (ddrd % 4) 0 && eqb (portd % 4) 0

-- "a tail that is FF FF FF without SPI .., and with SPI selected ≤ 7, ≤ 63, 00 or 08"
abbrev pub good_tail : Bool → ℕ → ℕ → ℕ → Bool
good_tail true config size mark = leb config 7 && ltb size width && (eqb mark 0x00 || eqb mark 0x08)
good_tail false config size mark = eqb config 0xFF && eqb size 0xFF && eqb mark 0xFF

-- "An image is good if it has ten bytes" and these
unfoldable pub is_good : List ℕ → Bool
is_good i =
    eqb (length i) image_bytes
    && (good_registers (get_or i 0 0) (get_or i 3 0) (get_or i 4 0) (get_or i 5 0) (get_or i 6 0) && good_tail (spi_selected (get_or i 0 0)) (get_or i 7 0) (get_or i 8 0) (get_or i 9 0))

-- THE PAGE OF AN IMAGE (01, "Switch-on"): without SPI "configuration 0, N 1, unconfigured"
abbrev pub spi_byte : List ℕ → ℕ → ℕ
spi_byte i k = cond (spi_selected (get_or i 0 0)) (get_or i k 0) 0

-- "defaults 86 C4 CC, BC BF F9, BC BF C7" (01, "1-Wire")
abbrev pub default_timings : List ℕ
default_timings = 0x86 ∷ 0xC4 ∷ 0xCC ∷ 0xBC ∷ 0xBF ∷ 0xF9 ∷ 0xBC ∷ 0xBF ∷ 0xC7 ∷ []

-- "ERROR and the packet register start at 0, timings at their defaults"
abbrev pub page_of : List ℕ → Page
page_of i = record {
  flags = get_or i 0 0;
  error = 0;
  ddrb = get_or i 1 0;
  portb = get_or i 2 0;
  ddrc = get_or i 3 0;
  portc = get_or i 4 0;
  ddrd = get_or i 5 0;
  portd = get_or i 6 0;
  config = spi_byte i 7;
  configured = eqb (spi_byte i 9) 0x08;
  size = spi_byte i 8;
  packet = zeros register_bytes;
  timings = default_timings;
}

-- THE FACTORY IMAGE (01, "Session file"): "factory, 00 seven times and FF three"
abbrev pub factory_image : List ℕ
factory_image = 0x00 ∷ 0x00 ∷ 0x00 ∷ 0x00 ∷ 0x00 ∷ 0x00 ∷ 0x00 ∷ 0xFF ∷ 0xFF ∷ 0xFF ∷ []
