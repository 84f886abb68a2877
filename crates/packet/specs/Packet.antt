-- The packet register (01, "SPI"): "The packet register is eight bytes, REG0 highest, taken and given whole." w is its
-- width in bits, n is 01's N, and high is bit 2 of CONFIG_SPI.
use Rattle.std.specs.Prelude.{ℕ, zero, suc, ◌+◌, ◌-◌, ◌/◌, ◌%◌, Bool, cond, List, [], ◌∷◌, ◌++◌, reverse, get_or, take, drop, length}
use Rattle.packet.specs.Register.{bits, register, zeros}

-- "N be the size in bits, 1 to 64": the one place of this number
abbrev pub width : ℕ
width = 64

-- "eight bytes"
abbrev pub register_bytes : ℕ
register_bytes = width / 8

-- SIZES

-- 42: "register = (operand + 63) mod 64"
abbrev pub size_register : ℕ → ℕ → ℕ
size_register w operand = (operand + (w - 1)) % w

-- "the size in bits .. (register + 1)"
abbrev pub size_of : ℕ → ℕ → ℕ
size_of w operand = size_register w operand + 1

-- ceil(N/8)
abbrev pub packet_bytes : ℕ → ℕ
packet_bytes n = (n + 7) / 8

-- LOADING (44): "ceil(N/8) bytes, lowest first; the low N bits are kept, the rest zero; with bit 2 of CONFIG_SPI they move
-- up by 64 − N"

-- the register of k bytes whose lowest is the first byte held, the next above it the second, and so on; 0 where none is held
unfoldable pub from_held : ℕ → List ℕ → List ℕ
from_held zero held = []
from_held (suc k) held = get_or held k 0 ∷ from_held k held

-- the low n of w bits, the rest zero
unfoldable pub kept : ℕ → ℕ → List ℕ → List ℕ
kept w n bs = zeros (w - n) ++ drop (w - n) bs

-- moved up by k places
unfoldable pub moved_up : ℕ → List ℕ → List ℕ
moved_up k bs = drop k (bs ++ zeros k)

abbrev pub cleared : ℕ → ℕ → List ℕ → List ℕ
cleared w n r = register (w / 8) (kept w n (bits r))

abbrev pub aligned : ℕ → ℕ → Bool → List ℕ → List ℕ
aligned w n high r = cond high (register (w / 8) (moved_up (w - n) (bits r))) r

abbrev pub loaded : ℕ → ℕ → Bool → List ℕ → List ℕ
loaded w n high held = aligned w n high (cleared w n (from_held (w / 8) held))

-- EXCHANGING (46)

-- the order on the wire: "from bit 63 down with bit 2 set, else from bit 0 up"
unfoldable pub order : Bool → List ℕ → List ℕ
order high bs = cond high bs (reverse bs)

-- the n bits that are sent, in order, and the one at a step
abbrev pub sent : ℕ → Bool → List ℕ → List ℕ
sent n high r = take n (order high (bits r))

abbrev pub sent_at : Bool → List ℕ → ℕ → ℕ
sent_at high r step = get_or (order high (bits r)) step 0

-- "the N bits received at bits N − 1 to 0, rest zero, the first one at bit N − 1 with bit 2 set, else at bit 0"
unfoldable pub bits_received : ℕ → Bool → List ℕ → List ℕ
bits_received w high rs = zeros (w - length rs) ++ order high rs

-- SENDING (4A): "the low ceil(N/8) bytes, lowest first"
abbrev pub low_bytes : ℕ → List ℕ → List ℕ
low_bytes n r = take (packet_bytes n) (reverse r)
