-- Aligning a loaded packet (02, "Ask 3. Faster packet alignment"): "move it by whole bytes and one remainder under eight bits. Prove
-- once over N that this gives what as many moves by one bit give." w is the register's width in bits, k its bytes, n is 01's N.
use Rattle.std.specs.Prelude.{ℕ, zero, suc, ◌-◌, ◌/◌, ◌%◌, ◌≡◌, true, List}
use Rattle.packet.specs.Register.{bits, register}
use Rattle.packet.specs.Packet.{moved_up, aligned}

-- a register moved up by m bits
abbrev pub bits_up : ℕ → ℕ → List ℕ → List ℕ
bits_up k m r = register k (moved_up m (bits r))

-- m "moves by one bit", one after another
unfoldable pub moves_by_one : ℕ → ℕ → List ℕ → List ℕ
moves_by_one k zero r = r
moves_by_one k (suc m) r = bits_up k 1 (moves_by_one k m r)

-- m bits "by whole bytes and one remainder under eight bits"
abbrev pub bytes_and_rest : ℕ → ℕ → List ℕ → List ℕ
bytes_and_rest k m r = bits_up k (m % 8) (moved_up (m / 8) r)

-- THEOREM (proofs/Moves.antt, `alignment_right`): "this gives what as many moves by one bit give", and it is what 01 has the packet
-- register hold
pub record Alignment (w n : ℕ) (r : List ℕ) : Type 0 where
  -- where r is a register of w bits, the one that has its own bits
  pub same : register (w / 8) (bits r) ≡ r → bytes_and_rest (w / 8) (w - n) r ≡ moves_by_one (w / 8) (w - n) r
  pub aligns : bytes_and_rest (w / 8) (w - n) r ≡ aligned w n true r
