-- The rows of a Value Change Dump (IEEE 1364, "Value change dump"): times, and values with the identifiers of their variables.
use Rattle.std.specs.Prelude.{ℕ, zero, suc, ◌+◌, ◌/◌, ◌%◌, ◌≡◌, cond, List, [], ◌∷◌, ◌++◌, eqb}
use Rattle.io.specs.Digits.{last_digits, IsDigitCount}
use Rattle.value_changes.specs.Collected.{collect_all}

abbrev pub newline : ℕ
newline = 0x0A

-- A TIME: "#" and the number
abbrev pub time_rows : ℕ → ℕ → List (List ℕ)
time_rows time count = (0x23 ∷ []) ∷ last_digits 10 count time ∷ (newline ∷ []) ∷ []

-- in as few digits as it has
pub record Timed (time : ℕ) (before after : List ℕ × ℕ) : Type 0 where
  pub count : ℕ
  pub fewest : IsDigitCount 10 1 time count
  pub rows : after ≡ collect_all before (time_rows time count)

-- A LINE'S LEVEL: its letter and the identifier
abbrev pub level_row : ℕ → ℕ → List ℕ
level_row level identifier = level ∷ identifier ∷ newline ∷ []

-- A REGISTER: "b", its bits, the high one first, and the identifier
abbrev pub digit_of : ℕ → ℕ
digit_of byte = 0x30 + byte % 2

abbrev pub register_row : ℕ → ℕ → List ℕ
register_row byte identifier =
    0x62 ∷ digit_of (byte / 128) ∷ digit_of (byte / 64) ∷ digit_of (byte / 32) ∷ digit_of (byte / 16) ∷ digit_of (byte / 8) ∷ digit_of (byte / 4) ∷ digit_of (byte / 2) ∷ digit_of byte ∷ 0x20 ∷ identifier ∷ newline ∷ []

-- A REGISTER BIT BY BIT: the bits that changed, the low one first, each with the register's identifier and its number in a digit
abbrev pub bit_row : ℕ → ℕ → ℕ → ℕ → List (List ℕ)
bit_row old new identifier number = cond (eqb (old % 2) (new % 2)) [] ((digit_of new ∷ identifier ∷ number ∷ newline ∷ []) ∷ [])

unfoldable pub bit_rows : ℕ → ℕ → ℕ → ℕ → ℕ → List (List ℕ)
bit_rows zero number old new identifier = []
bit_rows (suc left) number old new identifier = bit_row old new identifier number ++ bit_rows left (number + 1) (old / 2) (new / 2) identifier
