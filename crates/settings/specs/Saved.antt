-- What an image keeps of a page, and a page of an image (proofs/Saved.antt): `image_good`, `page_back` and `image_back`.
use Rattle.std.specs.Prelude.{ℕ, ◌≡◌, true, false, List}
use Rattle.registers.specs.Registers.{spi_selected}
use Rattle.registers.specs.Ranges.{PageInRange}
use Rattle.registers.specs.declared.Page.{Page}
use Rattle.settings.specs.Images.{image_of, is_good, page_of}

-- THEOREM (`image_good`): the image of a page in range is good
abbrev pub ImageGood : Page → Type 0
ImageGood p = PageInRange p → is_good (image_of p) ≡ true

-- a page has the settings of another: flags and port registers, and with SPI selected its settings, else "configuration 0, N 1,
-- unconfigured"
pub record SameSettings (p q : Page) : Type 0 where
  pub flags : q.flags ≡ p.flags
  pub ddrb : q.ddrb ≡ p.ddrb
  pub portb : q.portb ≡ p.portb
  pub ddrc : q.ddrc ≡ p.ddrc
  pub portc : q.portc ≡ p.portc
  pub ddrd : q.ddrd ≡ p.ddrd
  pub portd : q.portd ≡ p.portd
  pub with_spi : spi_selected p.flags ≡ true → (q.config ≡ p.config) × (q.configured ≡ p.configured) × (q.size ≡ p.size)
  pub without_spi : spi_selected p.flags ≡ false → (q.config ≡ 0) × (q.configured ≡ false) × (q.size ≡ 0)

-- THEOREM (`page_back`): the page of its image has a page's settings
abbrev pub PageBack : Page → Type 0
PageBack p = SameSettings p (page_of (image_of p))

-- THEOREM (`image_back`): the page of a good image is in range, and has that image
pub record ImageBack (i : List ℕ) : Type 0 where
  pub in_range : is_good i ≡ true → PageInRange (page_of i)
  pub image : is_good i ≡ true → image_of (page_of i) ≡ i
