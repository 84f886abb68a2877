-- Actions in 01's words, and the levels that samples give. Every waveform is made of these.
use Rattle.std.specs.Prelude.{ℕ, zero, suc, ◌+◌, List, [], ◌∷◌, ◌++◌, Bool, cond, eqb}
use Rattle.packet.specs.Register.{number}
use Rattle.packet.specs.Packet.{order}
use Rattle.wire.specs.Action.{Action, action, release, drive_low, drive_high, sample_line, wait_microseconds, set_direction, set_latch, port_b, port_c, port_d, no_line}
use Rattle.wire.specs.Sample.{level_at}

abbrev pub released : ℕ → Action
released line = action release line 0

abbrev pub low : ℕ → Action
low line = action drive_low line 0

abbrev pub high : ℕ → Action
high line = action drive_high line 0

abbrev pub sampled : ℕ → Action
sampled line = action sample_line line 0

-- a wait of n µs
abbrev pub waits : ℕ → Action
waits n = action wait_microseconds no_line n

-- the verb for a bit: low for 0; for 1 release, or high where "Lines are driven"
abbrev pub verb_for : ℕ → ℕ → ℕ
verb_for one bit = cond (eqb bit 0) drive_low one

abbrev pub low_or_released : ℕ → ℕ → Action
low_or_released line bit = action (verb_for release bit) line 0

abbrev pub driven : ℕ → ℕ → Action
driven line bit = action (verb_for drive_high bit) line 0

-- the actions that f gives for each of a list, one after another
unfoldable pub for_each : (ℕ → List Action) → List ℕ → List Action
for_each f [] = []
for_each f (x ∷ xs) = f x ++ for_each f xs

-- the levels of n samples from place s on; low past the end
unfoldable pub levels : List ℕ → ℕ → ℕ → List ℕ
levels ss s zero = []
levels ss s (suc n) = level_at ss s ∷ levels ss (s + 1) n

-- the byte of eight levels, the first of them highest or lowest
abbrev pub byte_of : Bool → List ℕ → ℕ
byte_of high_first rs = number 0 (order high_first rs)

-- "six actions, direction then latch, for B, C, D"
abbrev pub port_actions : ℕ → ℕ → ℕ → ℕ → ℕ → ℕ → List Action
port_actions ddrb portb ddrc portc ddrd portd =
    action set_direction port_b ddrb ∷ action set_latch port_b portb ∷ action set_direction port_c ddrc ∷ action set_latch port_c portc
    ∷ action set_direction port_d ddrd ∷ action set_latch port_d portd ∷ []
