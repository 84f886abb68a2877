-- Actions on the lines (01, "What goes in and comes out"): "An action is four bytes: verb, line, value (16 bits,
-- little-endian); unused fields are 0." Its fields are declared in src/lib.rt.
use Rattle.std.specs.Prelude.{ℕ, ◌/◌, ◌%◌, List, [], ◌∷◌, ◌++◌}
use Rattle.wire.specs.declared.Action as declared

-- THE VERBS, in 01's order
abbrev pub release : ℕ
release = 0

abbrev pub drive_low : ℕ
drive_low = 1

abbrev pub drive_high : ℕ
drive_high = 2

abbrev pub sample_line : ℕ
sample_line = 3

abbrev pub wait_microseconds : ℕ
wait_microseconds = 4

abbrev pub set_direction : ℕ
set_direction = 5

abbrev pub set_latch : ℕ
set_latch = 6

abbrev pub sample_port : ℕ
sample_port = 7

abbrev pub wait_milliseconds : ℕ
wait_milliseconds = 8

abbrev pub wait_cycles : ℕ
wait_cycles = 9

-- THE LINES, in 01's order; an action that has no line has 0 in its place
abbrev pub scl : ℕ
scl = 0

abbrev pub sda : ℕ
sda = 1

abbrev pub cs : ℕ
cs = 2

abbrev pub sck : ℕ
sck = 3

abbrev pub mosi : ℕ
mosi = 4

abbrev pub miso : ℕ
miso = 5

abbrev pub ss : ℕ
ss = 6

abbrev pub dq : ℕ
dq = 7

abbrev pub pb7 : ℕ
pb7 = 8

abbrev pub port_b : ℕ
port_b = 16

abbrev pub port_c : ℕ
port_c = 17

abbrev pub port_d : ℕ
port_d = 18

abbrev pub no_line : ℕ
no_line = 0

-- 01's term: action
abbrev pub Action : Type 0
Action = declared.Action

abbrev pub action : ℕ → ℕ → ℕ → Action
action v l n = record { verb = v; line = l; value = n }

-- its four bytes
abbrev pub action_bytes : Action → List ℕ
action_bytes a = a.verb ∷ a.line ∷ a.value % 256 ∷ a.value / 256 % 256 ∷ []

-- the bytes of actions in a row
abbrev pub bytes_of : List Action → List ℕ
bytes_of [] = []
bytes_of (a ∷ as') = action_bytes a ++ bytes_of as'
