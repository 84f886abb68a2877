-- Lent samples (01, "What goes in and comes out"): "for a line, 0 is low and anything else high; for a port, the byte is
-- taken whole".
use Rattle.std.specs.Prelude.{ℕ, zero, suc, ◌+◌, ◌<◌, ◌≡◌, Bool, cond, ◌||◌, List, [], ◌∷◌, eqb, get_or}
use Rattle.wire.specs.Action.{Action, sample_line, sample_port}

-- the byte at a place: a port's sample; 0 past the end, where an event that uses it is refused
abbrev pub byte_at : List ℕ → ℕ → ℕ
byte_at bytes place = get_or bytes place 0

-- a line's level: 0 for low, 1 for high
unfoldable pub level_of : ℕ → ℕ
level_of zero = 0
level_of (suc s) = 1

abbrev pub level_at : List ℕ → ℕ → ℕ
level_at samples place = level_of (byte_at samples place)

-- SAMPLES TAKEN: by the actions with "3 sample line" or "7 sample port"

abbrev pub is_sampling : ℕ → Bool
is_sampling verb = eqb verb sample_line || eqb verb sample_port

abbrev pub samples_in : ℕ → ℕ
samples_in verb = cond (is_sampling verb) 1 0

-- how many of the actions sample
unfoldable pub samplings : List Action → ℕ
samplings [] = 0
samplings (a ∷ as') = samples_in a.verb + samplings as'

-- "They are used from the front": n samples from one mark on are those from another
abbrev pub SameFrom : ℕ → List ℕ → ℕ → List ℕ → ℕ → Type 0
SameFrom n ss m us k = (i : ℕ) → i < n → byte_at ss (m + i) ≡ byte_at us (k + i)
