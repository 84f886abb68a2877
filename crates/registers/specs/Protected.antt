-- The protected bits of the port registers, bit by bit (01, "Registers and common commands").
use Rattle.std.specs.Prelude.{ℕ, ◌/◌, ◌%◌, ◌^◌, ◌<◌, ◌≡◌, Bool, false, cond, ◌||◌, List, [], ◌∷◌, eqb}
use Rattle.registers.specs.Registers.{PortRegister, Ddrb, Portb, Ddrc, Portc, Ddrd, Portd, protected}

-- bit i of a number
abbrev pub bit : ℕ → ℕ → ℕ
bit i x = x / 2 ^ i % 2

-- whether a number is one of a list
abbrev pub one_of : ℕ → List ℕ → Bool
one_of i [] = false
one_of i (k ∷ ks) = eqb i k || one_of i ks

-- "C 6, 7; D 0, 1, 5"
abbrev pub protected_bits : PortRegister → List ℕ
protected_bits Ddrb = []
protected_bits Portb = []
protected_bits Ddrc = 6 ∷ 7 ∷ []
protected_bits Portc = 6 ∷ 7 ∷ []
protected_bits Ddrd = 0 ∷ 1 ∷ 5 ∷ []
protected_bits Portd = 0 ∷ 1 ∷ 5 ∷ []

-- "Protected bits keep their old bits", and the others are the operand's
abbrev pub KeepsProtected : PortRegister → ℕ → ℕ → ℕ → Type 0
KeepsProtected r old new x = (i : ℕ) → i < 8 → bit i x ≡ cond (one_of i (protected_bits r)) (bit i old) (bit i new)

-- THEOREM (proofs/Protected.antt, `protected_right`): what a register becomes where an operand is written has these bits, and is
-- the only byte that has them
pub record Protected (r : PortRegister) (old new : ℕ) : Type 0 where
  pub bits : KeepsProtected r old new (protected r old new)
  pub only : old < 256 → new < 256 → (x : ℕ) → x < 256 → KeepsProtected r old new x → x ≡ protected r old new
