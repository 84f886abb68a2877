-- The grammar of command streams (01, "Grammar"), written without the bridge. Bytes are numbers. Interface, context and its change are
-- declared in src/lib.rt, each with 01's words.
use Rattle.std.specs.Prelude.{ℕ, ◌<◌, ◌≡◌, Bool, true, false, ◌&&◌, length, Some}
use Rattle.std.specs.Option.{option_eq}
use Rattle.std.specs.declared.option.Option.TheVariants as option
use denote.Enum.Bare.{sameb}
use mathlib.Core.List.{List, [], ◌∷◌, ◌++◌, Memᴰ, map}
use Rattle.packet.specs.Packet.{width, size_of, packet_bytes}
use Rattle.grammar.specs.contracts.Interface.{the_type}
pub use Rattle.grammar.specs.declared.Interface.{Interface}
pub use Rattle.grammar.specs.declared.Interface.TheVariants.{I2C, SPI, OneWire}
pub use Rattle.grammar.specs.declared.Context.{Context}
pub use Rattle.grammar.specs.declared.ContextChange.{ContextChange}
pub use Rattle.grammar.specs.declared.ContextChange.TheVariants.{Keep, Clear, Select, Configure, Resize}

-- THE COMMAND LIST: a row for each command byte but 1D, in 01's order: what it needs of the context, its operands, and what
-- it does to the context

-- nothing (a common one), its interface selected, or SPI selected and configured
pub data Needs : Type 0 where
  Common : Needs
  Selected : Interface → Needs
  Configured : Needs

-- none, one, nine, or as many as a packet of N bits
pub data Operands : Type 0 where
  None : Operands
  One : Operands
  Nine : Operands
  Packet : Operands

pub record Command : Type 0 where
  pub code : ℕ
  pub needs : Needs
  pub operands : Operands
  pub change : ContextChange

-- rows that differ in their codes alone
abbrev pub rows_for : List ℕ → Needs → Operands → ContextChange → List Command
rows_for codes n o e = map (λ (k : ℕ). record { code = k; needs = n; operands = o; change = e }) codes

-- 01, "Registers and common commands"
abbrev pub common_commands : List Command
common_commands =
    rows_for (0x00 ∷ []) Common None Clear
    ++ rows_for (0x01 ∷ []) Common None (Select (Some I2C))
    ++ rows_for (0x02 ∷ []) Common None (Select (Some SPI))
    ++ rows_for (0x03 ∷ []) Common None (Select (Some OneWire))
    ++ rows_for (0x04 ∷ 0x05 ∷ 0x06 ∷ 0x07 ∷ 0x08 ∷ 0x09 ∷ 0x0A ∷ []) Common None Keep
    ++ rows_for (0x0B ∷ 0x0D ∷ 0x0F ∷ 0x11 ∷ 0x13 ∷ 0x15 ∷ []) Common One Keep
    ++ rows_for (0x0C ∷ 0x0E ∷ 0x10 ∷ 0x12 ∷ 0x14 ∷ 0x16 ∷ []) Common None Keep
    ++ rows_for (0x17 ∷ 0x18 ∷ 0x19 ∷ 0x1A ∷ 0x1B ∷ 0x1E ∷ 0x1C ∷ []) Common None Keep

-- 01, "I2C"
abbrev pub i2c_commands : List Command
i2c_commands =
    rows_for (0x20 ∷ 0x21 ∷ []) (Selected I2C) None Keep
    ++ rows_for (0x22 ∷ []) (Selected I2C) One Keep
    ++ rows_for (0x23 ∷ 0x24 ∷ 0x25 ∷ 0x26 ∷ 0x27 ∷ []) (Selected I2C) None Keep

-- 01, "SPI"; "41, 44, 46, 4B, 4C need configured"
abbrev pub spi_commands : List Command
spi_commands =
    rows_for (0x40 ∷ []) (Selected SPI) One Configure
    ++ rows_for (0x41 ∷ []) Configured None Keep
    ++ rows_for (0x42 ∷ []) (Selected SPI) One Resize
    ++ rows_for (0x43 ∷ []) (Selected SPI) None Keep
    ++ rows_for (0x44 ∷ []) Configured Packet Keep
    ++ rows_for (0x45 ∷ []) (Selected SPI) None Keep
    ++ rows_for (0x46 ∷ []) Configured None Keep
    ++ rows_for (0x47 ∷ 0x48 ∷ 0x49 ∷ 0x4A ∷ []) (Selected SPI) None Keep
    ++ rows_for (0x4B ∷ []) Configured None Keep
    ++ rows_for (0x4C ∷ []) Configured Packet Keep

-- 01, "1-Wire"
abbrev pub one_wire_commands : List Command
one_wire_commands =
    rows_for (0x60 ∷ []) (Selected OneWire) None Keep
    ++ rows_for (0x61 ∷ 0x63 ∷ 0x67 ∷ []) (Selected OneWire) One Keep
    ++ rows_for (0x62 ∷ 0x64 ∷ []) (Selected OneWire) None Keep
    ++ rows_for (0x65 ∷ []) (Selected OneWire) Nine Keep
    ++ rows_for (0x66 ∷ 0x68 ∷ 0x69 ∷ 0x6A ∷ []) (Selected OneWire) None Keep

unfoldable pub commands : List Command
commands = common_commands ++ i2c_commands ++ spi_commands ++ one_wire_commands

-- the bytes that may follow 1D: 00 and 04 to 07 are left out, so unknown (H)
unfoldable pub extended_commands : List Command
extended_commands =
    rows_for (0x01 ∷ 0x02 ∷ 0x03 ∷ 0x08 ∷ 0x09 ∷ 0x0A ∷ 0x0B ∷ 0x0C ∷ 0x0D ∷ []) Common None Keep
    ++ rows_for (0x0E ∷ []) Common One Keep
    ++ rows_for (0x0F ∷ []) Common None Keep

-- WHAT THE ROWS SAY

-- whether two interfaces are one
abbrev pub is_same : Interface → Interface → Bool
is_same i j = sameb the_type i j

abbrev pub selected : Interface → Context → Bool
selected i c = option_eq is_same c.interface (Some i)

-- "a command legal in its context (common, or of its interface)"
abbrev pub legal : Needs → Context → Bool
legal Common c = true
legal (Selected i) c = selected i c
legal Configured c = selected SPI c && c.configured

-- "its operands: none, one, nine (65) or ceil(N/8) (44, 4C)"
abbrev pub count : Operands → Context → ℕ
count None c = 0
count One c = 1
count Nine c = 9
count Packet c = packet_bytes c.bits

-- "none, unconfigured, N = 1"
abbrev pub cleared_context : Context
cleared_context = record { interface = option.None; configured = false; bits = 1 }

-- the context after an item whose last byte is b: "00 clears the context to none, unconfigured, N = 1; 01 to 03 change the
-- interface; 40 configures; 42 sets N. Nothing else changes it."
abbrev pub context_after : ContextChange → ℕ → Context → Context
context_after Keep b c = c
context_after Clear b c = cleared_context
context_after (Select i) b c = record { interface = i; configured = c.configured; bits = c.bits }
context_after Configure b c = record { interface = c.interface; configured = true; bits = c.bits }
context_after Resize b c = record { interface = c.interface; configured = c.configured; bits = size_of width b }

-- the context at the factory start: 01, "Session file", "00 seven times and FF three", so no interface, and "Switch-on", "FF FF FF
-- without SPI (then configuration 0, N 1, unconfigured)"
abbrev pub factory_context : Context
factory_context = cleared_context

-- the last of b and the bytes after it
abbrev pub last : ℕ → List ℕ → ℕ
last b [] = b
last b (x ∷ xs) = last x xs

-- AN ITEM (01's term) in a context, with the context after it
pub data Item (c : Context) : List ℕ → Context → Type 0 where
  command : (k : Command) → Memᴰ k commands → legal k.needs c ≡ true → (ops : List ℕ) → length ops ≡ count k.operands c
      → Item c (k.code ∷ ops) (context_after k.change (last k.code ops) c)
  extended : (k : Command) → Memᴰ k extended_commands → legal k.needs c ≡ true → (ops : List ℕ) → length ops ≡ count k.operands c
      → Item c (0x1D ∷ k.code ∷ ops) (context_after k.change (last k.code ops) c)

-- "items in a row, or none at all"
pub data Items : Context → List (List ℕ) → Context → Type 0 where
  none : {c : Context} → Items c [] c
  next : {c d e : Context} {x : List ℕ} {xs : List (List ℕ)} → Item c x d → Items d xs e → Items c (x ∷ xs) e

abbrev pub join : List (List ℕ) → List ℕ
join [] = []
join (x ∷ xs) = x ++ join xs

-- a division of bytes into items, with the context after them
abbrev pub Division : Context → List ℕ → Type 0
Division c bs = (xs : List (List ℕ)) × (d : Context) × Items c xs d × (join xs ≡ bs)

-- ORDERLY (01's term): the bytes have a division into items
abbrev pub Orderly : Context → List ℕ → Type 0
Orderly c bs = Division c bs

abbrev pub Bytes : List ℕ → Type 0
Bytes [] = Unit {0}
Bytes (b ∷ bs) = (b < 256) × Bytes bs

-- "bytes can be continued if some, or none, put after them make orderly ones"
abbrev pub Continuable : Context → List ℕ → Type 0
Continuable c bs = (more : List ℕ) × Bytes more × Orderly c (bs ++ more)
