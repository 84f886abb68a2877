-- Device codes (01, "Refusal numbers"): "Device codes are not refusals: 00 none, 20 no I2C acknowledge, 40 no SPI configuration, 60
-- no presence, 80 unknown command, 81 frame, 82 overrun, 83 parity"; and 02's "new device code 84" (Ask 1, "Wrong interface is not
-- unknown").
use Rattle.std.specs.Prelude.{ℕ, Bool, true, false, ◌||◌, List, [], ◌∷◌}
use Prim.Native.String.{String}
use Rattle.padding.specs.Padding.{bytes, padded}
use Rattle.codes.specs.Tables.{Entry, ◌is◌, lookup}

abbrev pub no_error : ℕ
no_error = 0x00

abbrev pub no_acknowledge : ℕ
no_acknowledge = 0x20

abbrev pub no_configuration : ℕ
no_configuration = 0x40

abbrev pub no_presence : ℕ
no_presence = 0x60

abbrev pub unknown_command : ℕ
unknown_command = 0x80

abbrev pub frame : ℕ
frame = 0x81

abbrev pub overrun : ℕ
overrun = 0x82

abbrev pub parity : ℕ
parity = 0x83

abbrev pub wrong_interface : ℕ
wrong_interface = 0x84

-- THE TABLE: each code's words, and whether it rejects the byte that returned it
pub record Meaning : Type 0 where
  pub words : String
  pub rejects : Bool

abbrev pub means : String → Bool → Meaning
means w r = record { words = w; rejects = r }

abbrev pub rejects : Bool
rejects = true

abbrev pub passes : Bool
passes = false

abbrev pub code_table : List (Entry Meaning)
code_table =
    no_error is means "none" passes
    ∷ no_acknowledge is means "no acknowledge" passes
    ∷ no_configuration is means "no SPI configuration" rejects
    ∷ no_presence is means "no presence" passes
    ∷ unknown_command is means "unknown command" rejects
    ∷ frame is means "frame" passes
    ∷ overrun is means "overrun" passes
    ∷ parity is means "parity" passes
    ∷ wrong_interface is means "wrong interface" rejects
    ∷ []

-- of a number that is no code, no words
abbrev pub meaning_of : ℕ → Meaning
meaning_of k = lookup (means "" passes) k code_table

abbrev pub rejecting : ℕ → Bool
rejecting k = (meaning_of k).rejects

-- REJECTED (01, "Registers and common commands"): "one that returns 80, or 40", or 84 (02, Ask 1), by the codes that a byte returned
abbrev pub any_rejecting : List ℕ → Bool
any_rejecting [] = false
any_rejecting (k ∷ ks) = rejecting k || any_rejecting ks

-- a code's words
abbrev pub text_of : ℕ → List ℕ
text_of k = bytes (meaning_of k).words

-- the widest words
abbrev pub words_width : ℕ
words_width = 20

-- a code's words, padded with blanks to the widest
abbrev pub words_in : Meaning → List ℕ
words_in m = padded words_width (bytes m.words)

abbrev pub words_of : ℕ → List ℕ
words_of k = words_in (meaning_of k)
