-- The packet register in an exchange (46): 001, 1.2.2, has its eight bytes "used as a 64-bit shift register of SPI". w is its
-- width in bits, high is bit 2 of CONFIG_SPI, rs the bits received, one for each that is sent.
use Rattle.std.specs.Prelude.{ℕ, ◌-◌, ◌/◌, ◌≡◌, Bool, cond, List, ◌++◌, length, take, drop}
use Rattle.packet.specs.Register.{bits, register, zeros}
use Rattle.packet.specs.Packet.{kept, order, sent, bits_received}

-- the register's bits in the order on the wire, and behind them those received
abbrev pub passing : Bool → List ℕ → List ℕ → List ℕ
passing high rs bs = order high bs ++ rs

-- the bits in the register when as many left in front as came in behind
unfoldable pub shifted : Bool → List ℕ → List ℕ → List ℕ
shifted high rs bs = order high (drop (length rs) (passing high rs bs))

-- 001, 4A: "the result is in any case aligned to the lowest bit"; sent from bit 0 up it has to move down by w − n
unfoldable pub lowered : ℕ → ℕ → Bool → List ℕ → List ℕ
lowered w n high bs = cond high bs (take w (zeros (w - n) ++ bs))

-- what the register holds after an exchange: shifted, aligned, "rest zero"
abbrev pub exchanged : ℕ → Bool → List ℕ → List ℕ → List ℕ
exchanged w high rs r = register (w / 8) (kept w (length rs) (lowered w (length rs) high (shifted high rs (bits r))))

-- THEOREM (proofs/Shifts.antt, `exchange_right`): what leaves is what 01 has sent, and what then stands in the register is what
-- 01 has received, whatever stood there before
pub record Exchanges (w : ℕ) (high : Bool) (rs r : List ℕ) : Type 0 where
  pub leaves : take (length rs) (passing high rs (bits r)) ≡ sent (length rs) high r
  pub holds : exchanged w high rs r ≡ register (w / 8) (bits_received w high rs)
