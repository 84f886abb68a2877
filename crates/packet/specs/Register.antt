-- A register of bytes as its bits, highest first. No width is fixed here.
use Rattle.std.specs.Prelude.{ℕ, zero, suc, ◌+◌, ◌*◌, ◌/◌, ◌%◌, List, [], ◌∷◌, ◌++◌, take, drop, replicate}

-- a byte's bits, highest first
unfoldable pub byte_bits : ℕ → List ℕ
byte_bits b = b / 128 % 2 ∷ b / 64 % 2 ∷ b / 32 % 2 ∷ b / 16 % 2 ∷ b / 8 % 2 ∷ b / 4 % 2 ∷ b / 2 % 2 ∷ b % 2 ∷ []

-- a register's bits, highest first: those of REG0, of REG1 and so on
unfoldable pub bits : List ℕ → List ℕ
bits [] = []
bits (b ∷ r) = byte_bits b ++ bits r

-- the number whose bits follow those of v, highest first
unfoldable pub number : ℕ → List ℕ → ℕ
number v [] = v
number v (b ∷ bs) = number (v * 2 + b) bs

-- the register of k bytes that has these bits
unfoldable pub register : ℕ → List ℕ → List ℕ
register zero bs = []
register (suc k) bs = number 0 (take 8 bs) ∷ register k (drop 8 bs)

abbrev pub zeros : ℕ → List ℕ
zeros k = replicate k 0
