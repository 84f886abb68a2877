-- Actions read back (01, "What goes in and comes out"): "An action is four bytes: verb, line, value (16 bits, little-endian)".
use Rattle.std.specs.Prelude.{ℕ, ◌+◌, ◌*◌, ◌<◌, ◌≡◌, Bool, cond, ◌||◌, List, [], ◌∷◌, eqb, length, drop, Option, Some, None}
use Rattle.wire.specs.Action.{Action, action, bytes_of, wait_microseconds, wait_milliseconds, wait_cycles}
use Rattle.wire.specs.Buffer.{fits_in}
use Rattle.wire.specs.Sample.{byte_at}

-- AN ACTION of four bytes
abbrev pub action_of : List ℕ → Action
action_of bytes = action (byte_at bytes 0) (byte_at bytes 1) (byte_at bytes 2 + 256 * byte_at bytes 3)

-- THE ACTION AT A PLACE; none where four bytes are not left
abbrev pub action_at : List ℕ → ℕ → Option Action
action_at bytes at = cond (fits_in (length bytes) at 4) (Some (action_of (drop at bytes))) None

-- ALL ACTIONS in bytes, in order; fewer than four bytes at the end are none
unfoldable pub actions_in : List ℕ → List Action
actions_in (verb ∷ line ∷ low ∷ high ∷ rest) = action verb line (low + 256 * high) ∷ actions_in rest
actions_in [] = []
actions_in (x ∷ []) = []
actions_in (x ∷ y ∷ []) = []
actions_in (x ∷ y ∷ z ∷ []) = []

-- THEOREM (proofs/Walks.antt, `actions_read`): actions that are written read back, if their values have 16 bits
abbrev pub InBits : List Action → Type 0
InBits [] = Unit {0}
InBits (a ∷ as') = (a.value < 65536) × InBits as'

abbrev pub ReadBack : List Action → Type 0
ReadBack as' = InBits as' → actions_in (bytes_of as') ≡ as'

-- A WAIT: "4 wait µs", "8 wait ms" or "9 wait IOG cycles"
abbrev pub is_wait : ℕ → Bool
is_wait verb = eqb verb wait_microseconds || eqb verb wait_milliseconds || eqb verb wait_cycles

-- its microseconds, an IOG cycle taken as one; 0 of what is no wait
abbrev pub wait_of : Action → ℕ
wait_of a =
    cond (eqb a.verb wait_microseconds) a.value
    (cond (eqb a.verb wait_milliseconds) (a.value * 1000)
    (cond (eqb a.verb wait_cycles) a.value 0))
