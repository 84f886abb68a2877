-- What an event says (01, "Registers and common commands"): "A returned code is stored in ERROR and, if REPORTS_EN is set after
-- the command, also sent. Commands that send data return none and leave ERROR."
use Rattle.std.specs.Prelude.{ℕ, Bool, cond, List, [], ◌∷◌}
use Rattle.codes.specs.Codes.{any_rejecting}

-- a code returned (01's term), a byte sent, or a code that is returned and sent whatever REPORTS_EN is
pub data Said : Type 0 where
  returned : ℕ → Said
  sent : ℕ → Said
  returned_and_sent : ℕ → Said

-- ERROR after it was e
unfoldable pub error_after : ℕ → List Said → ℕ
error_after e [] = e
error_after e (returned k ∷ xs) = error_after k xs
error_after e (sent x ∷ xs) = error_after e xs
error_after e (returned_and_sent k ∷ xs) = error_after k xs

-- the reply bytes, with REPORTS_EN set or not after the command
unfoldable pub replies_of : Bool → List Said → List ℕ
replies_of reports [] = []
replies_of reports (returned k ∷ xs) = cond reports (k ∷ replies_of reports xs) (replies_of reports xs)
replies_of reports (sent x ∷ xs) = x ∷ replies_of reports xs
replies_of reports (returned_and_sent k ∷ xs) = k ∷ replies_of reports xs

-- the codes returned
unfoldable pub codes_of : List Said → List ℕ
codes_of [] = []
codes_of (returned k ∷ xs) = k ∷ codes_of xs
codes_of (sent x ∷ xs) = codes_of xs
codes_of (returned_and_sent k ∷ xs) = k ∷ codes_of xs

-- rejected, whatever ERROR held
abbrev pub is_rejected : List Said → Bool
is_rejected xs = any_rejecting (codes_of xs)
