-- The bytes of a state (include/bridge.h), and the state of bytes.
use Rattle.std.specs.Prelude.{ℕ, ◌+◌, ◌≡◌, Bool, true, false, cond, ◌&&◌, ◌||◌, List, [], ◌∷◌, ◌++◌, Option, Some, None, eqb, leb, get_or, length, take, drop}
use Rattle.packet.specs.Packet.{register_bytes}
use Rattle.registers.specs.Registers.{timing_bytes, image_bytes, serial_bytes, held_bytes}
use Rattle.registers.specs.declared.Page.{Page}
use Rattle.registers.specs.declared.Shared.{Shared}
use Rattle.registers.specs.declared.State.{State}
use Rattle.registers.specs.declared.PortRegister.{PortRegister}
use Rattle.registers.specs.declared.PortRegister.TheVariants.{Ddrb, Portb, Ddrc, Portc, Ddrd, Portd}
use Rattle.registers.specs.declared.Operand.{Operand}
use Rattle.registers.specs.declared.Operand.TheVariants.{ToPort, ToCycles, ToI2c, ToConfig, ToSize, ToOneWire, ToOneWireBit, ToOneWireStrong}
use Rattle.registers.specs.declared.Wait.{Wait}
use Rattle.registers.specs.declared.Wait.TheVariants.{Nothing, One, Extended, Packet, Timings}
use Rattle.codes.specs.Tables.{Entry, ◌is◌, lookup}
use Rattle.registers.specs.Ranges.{Sized}

-- WHERE EACH PART STANDS: the registers, then each part after the one before it
abbrev pub at_configured : ℕ
at_configured = 9

abbrev pub at_packet : ℕ
at_packet = 11

abbrev pub at_timings : ℕ
at_timings = at_packet + register_bytes

abbrev pub at_eprom : ℕ
at_eprom = at_timings + timing_bytes

abbrev pub at_cycles : ℕ
at_cycles = at_eprom + image_bytes

abbrev pub at_version : ℕ
at_version = at_cycles + 1

abbrev pub at_serial : ℕ
at_serial = at_version + 1

abbrev pub at_wait : ℕ
at_wait = at_serial + serial_bytes

abbrev pub at_left : ℕ
at_left = at_wait + 1

abbrev pub at_held : ℕ
at_held = at_left + 1

abbrev pub at_drop : ℕ
at_drop = at_held + held_bytes

abbrev pub state_size : ℕ
state_size = at_drop + 1

-- WHAT IS WAITED FOR: "0 nothing; one operand for 1 DDRB, .. 14 the byte after 1D; 15 packet bytes, 16 packet bytes and then an
-- exchange, 17 timing bytes"
abbrev pub port_code : PortRegister → ℕ
port_code Ddrb = 1
port_code Portb = 2
port_code Ddrc = 3
port_code Portc = 4
port_code Ddrd = 5
port_code Portd = 6

abbrev pub operand_code : Operand → ℕ
operand_code (ToPort r) = port_code r
operand_code ToCycles = 7
operand_code ToI2c = 8
operand_code ToConfig = 9
operand_code ToSize = 10
operand_code ToOneWire = 11
operand_code ToOneWireBit = 12
operand_code ToOneWireStrong = 13

abbrev pub wait_code : Wait → ℕ
wait_code Nothing = 0
wait_code (One o) = operand_code o
wait_code Extended = 14
wait_code (Packet left exchange) = cond exchange 16 15
wait_code (Timings left) = 17

-- "how many more bytes are waited for, with 15 to 17; else 0"
abbrev pub wait_left : Wait → ℕ
wait_left Nothing = 0
wait_left (One o) = 0
wait_left Extended = 0
wait_left (Packet left exchange) = left
wait_left (Timings left) = left

-- THE BYTES of a state, its parts in a row
abbrev pub page_bytes : Page → List ℕ
page_bytes p =
    (p.flags ∷ p.error ∷ p.ddrb ∷ p.portb ∷ p.ddrc ∷ p.portc ∷ p.ddrd ∷ p.portd ∷ p.config ∷ cond p.configured 1 0 ∷ p.size ∷ [])
    ++ p.packet ++ p.timings

abbrev pub shared_bytes : Shared → List ℕ
shared_bytes h = h.eprom ++ (h.cycles ∷ h.version ∷ []) ++ h.serial

-- the wait, what is held for it, and "1 if the next byte is dropped"
abbrev pub wait_bytes : Wait → List ℕ → Bool → List ℕ
wait_bytes w held pending = (wait_code w ∷ wait_left w ∷ []) ++ held ++ (cond pending 1 0 ∷ [])

unfoldable pub state_bytes : State → List ℕ
state_bytes s = page_bytes s.page ++ shared_bytes s.shared ++ wait_bytes s.wait s.held s.drop

-- THE STATE of bytes
abbrev pub piece : List ℕ → ℕ → ℕ → List ℕ
piece b at size = take size (drop at b)

abbrev pub page_in : List ℕ → Page
page_in b = record {
  flags = get_or b 0 0;
  error = get_or b 1 0;
  ddrb = get_or b 2 0;
  portb = get_or b 3 0;
  ddrc = get_or b 4 0;
  portc = get_or b 5 0;
  ddrd = get_or b 6 0;
  portd = get_or b 7 0;
  config = get_or b 8 0;
  configured = eqb (get_or b at_configured 0) 1;
  size = get_or b 10 0;
  packet = piece b at_packet register_bytes;
  timings = piece b at_timings timing_bytes;
}

abbrev pub shared_in : List ℕ → Shared
shared_in b = record { eprom = piece b at_eprom image_bytes; cycles = get_or b at_cycles 0; version = get_or b at_version 0; serial = piece b at_serial serial_bytes }

abbrev pub wait_table : ℕ → List (Entry Wait)
wait_table left =
    0 is Nothing
    ∷ 1 is One (ToPort Ddrb) ∷ 2 is One (ToPort Portb) ∷ 3 is One (ToPort Ddrc) ∷ 4 is One (ToPort Portc) ∷ 5 is One (ToPort Ddrd) ∷ 6 is One (ToPort Portd)
    ∷ 7 is One ToCycles ∷ 8 is One ToI2c ∷ 9 is One ToConfig ∷ 10 is One ToSize ∷ 11 is One ToOneWire ∷ 12 is One ToOneWireBit ∷ 13 is One ToOneWireStrong
    ∷ 14 is Extended ∷ 15 is Packet left false ∷ 16 is Packet left true ∷ 17 is Timings left ∷ []

abbrev pub wait_of : ℕ → ℕ → Wait
wait_of code left = lookup Nothing code (wait_table left)

unfoldable pub state_in : List ℕ → State
state_in b = record { page = page_in b; shared = shared_in b; wait = wait_of (get_or b at_wait 0) (get_or b at_left 0); held = piece b at_held held_bytes; drop = eqb (get_or b at_drop 0) 1 }

-- "Another length, a byte at 9 or 55 that is not 0 or 1, a byte at 44 over 17, or one at 45 that is not 0 with a wait of 0 to 14, is no
-- state"
unfoldable pub is_state : List ℕ → Bool
is_state b = eqb (length b) state_size && (leb (get_or b at_configured 0) 1 && leb (get_or b at_drop 0) 1 && leb (get_or b at_wait 0) 17 && (leb 15 (get_or b at_wait 0) || eqb (get_or b at_left 0) 0))

abbrev pub decoded : List ℕ → Option State
decoded b = cond (is_state b) (Some (state_in b)) None

-- THEOREM (proofs/Back.antt, `state_back`): the bytes of a state whose arrays have their sizes are a state's, this one's
pub record AllSized (s : State) : Type 0 where
  pub registers : Sized s
  pub held : length s.held ≡ held_bytes

abbrev pub StateBack : State → Type 0
StateBack s = AllSized s → (is_state (state_bytes s) ≡ true) × (state_in (state_bytes s) ≡ s)

-- THEOREM (proofs/Back.antt, `bytes_back`): the state of bytes has these bytes
abbrev pub BytesBack : List ℕ → Type 0
BytesBack b = is_state b ≡ true → state_bytes (state_in b) ≡ b
