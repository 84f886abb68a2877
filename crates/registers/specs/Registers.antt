-- The state's registers (01, "Registers and common commands") and its parts by name. The types are declared in src/lib.rt.
use Rattle.std.specs.Prelude.{ℕ, ◌+◌, ◌*◌, ◌/◌, ◌%◌, ◌≡◌, ◌↔◌, Bool, true, false, cond, List, Result, Ok, Err, eqb, set, take}
use Rattle.packet.specs.Register.{zeros}
use Rattle.wire.specs.Action.{port_b, port_c, port_d, set_direction, set_latch}
pub use Rattle.registers.specs.declared.Page.{Page}
pub use Rattle.registers.specs.declared.Shared.{Shared}
pub use Rattle.registers.specs.declared.State.{State}
pub use Rattle.registers.specs.declared.PortRegister.{PortRegister}
pub use Rattle.registers.specs.declared.PortRegister.TheVariants.{Ddrb, Portb, Ddrc, Portc, Ddrd, Portd}
pub use Rattle.registers.specs.declared.Operand.{Operand}
pub use Rattle.registers.specs.declared.Operand.TheVariants.{ToPort, ToCycles, ToI2c, ToConfig, ToSize, ToOneWire, ToOneWireBit, ToOneWireStrong}
pub use Rattle.registers.specs.declared.Wait.{Wait}
pub use Rattle.registers.specs.declared.Wait.TheVariants.{Nothing, One, Extended, Packet, Timings}
pub use Rattle.registers.specs.declared.Fault.{Fault}
pub use Rattle.registers.specs.declared.Fault.TheVariants.{Frame, Overrun, Parity}
pub use Rattle.registers.specs.declared.NoFault.{NoFault}

-- COMMON_FLAGS: "bit 0 I2C, 1 SPI, 2 1-Wire, 3 REPORTS_EN, 4 AUTOLOAD_EN"
abbrev pub i2c_selected : ℕ → Bool
i2c_selected flags = eqb (flags % 2) 1

abbrev pub spi_selected : ℕ → Bool
spi_selected flags = eqb (flags / 2 % 2) 1

abbrev pub one_wire_selected : ℕ → Bool
one_wire_selected flags = eqb (flags / 4 % 2) 1

abbrev pub reports_on : ℕ → Bool
reports_on flags = eqb (flags / 8 % 2) 1

abbrev pub autoload_on : ℕ → Bool
autoload_on flags = eqb (flags / 16 % 2) 1

-- "clears common flags but bits 3 and 4"
abbrev pub kept_flags : ℕ → ℕ
kept_flags flags = flags / 8 % 4 * 8

-- CONFIG_SPI: bit 0 CPHA, 1 CPOL, 2 high bit first
abbrev pub phase_of : ℕ → Bool
phase_of config = eqb (config % 2) 1

abbrev pub polarity_of : ℕ → ℕ
polarity_of config = config / 2 % 2

abbrev pub high_first : ℕ → Bool
high_first config = eqb (config / 4 % 2) 1

-- N: "register + 1"
abbrev pub bits_of : ℕ → ℕ
bits_of size = size + 1

abbrev pub bits_in : Page → ℕ
bits_in p = bits_of p.size

-- THE SIZES that 01 gives: "nine bytes" of timings, "ten bytes" of an image, "four bytes" of a serial number; and room for the bytes
-- that a wait holds, for which nine are enough
abbrev pub timing_bytes : ℕ
timing_bytes = 9

abbrev pub image_bytes : ℕ
image_bytes = 10

abbrev pub serial_bytes : ℕ
serial_bytes = 4

abbrev pub held_bytes : ℕ
held_bytes = 9

-- a fault's code: "81 frame, 82 overrun, 83 parity"
abbrev pub fault_code : Fault → ℕ
fault_code Frame = 0x81
fault_code Overrun = 0x82
fault_code Parity = 0x83

-- the fault of a code, where it is one's
abbrev pub fault_of : ℕ → Result Fault NoFault
fault_of code =
    cond (eqb code 0x81) (Ok Frame) (cond (eqb code 0x82) (Ok Overrun) (cond (eqb code 0x83) (Ok Parity) (Err (record {}))))

-- THEOREM (proofs/Faults.antt, `fault_back`): exactly a fault's code gives it back
abbrev pub FaultBack : ℕ → Fault → Type 0
FaultBack code f = (fault_of code ≡ Ok f) ↔ (code ≡ fault_code f)

-- THE PORT REGISTERS

abbrev pub register_of : Page → PortRegister → ℕ
register_of p Ddrb = p.ddrb
register_of p Portb = p.portb
register_of p Ddrc = p.ddrc
register_of p Portc = p.portc
register_of p Ddrd = p.ddrd
register_of p Portd = p.portd

-- the verb and the line of the action that carries a port register
abbrev pub verb_of : PortRegister → ℕ
verb_of Ddrb = set_direction
verb_of Portb = set_latch
verb_of Ddrc = set_direction
verb_of Portc = set_latch
verb_of Ddrd = set_direction
verb_of Portd = set_latch

abbrev pub line_of : PortRegister → ℕ
line_of Ddrb = port_b
line_of Portb = port_b
line_of Ddrc = port_c
line_of Portc = port_c
line_of Ddrd = port_d
line_of Portd = port_d

-- "Protected bits keep their old bits: C 6, 7; D 0, 1, 5"
abbrev pub keep_c : ℕ → ℕ → ℕ
keep_c old new = new % 64 + old / 64 * 64

abbrev pub keep_d : ℕ → ℕ → ℕ
keep_d old new = old % 4 + new / 4 % 8 * 4 + old / 32 % 2 * 32 + new / 64 * 64

abbrev pub protected : PortRegister → ℕ → ℕ → ℕ
protected Ddrb old new = new
protected Portb old new = new
protected Ddrc old new = keep_c old new
protected Portc old new = keep_c old new
protected Ddrd old new = keep_d old new
protected Portd old new = keep_d old new

-- A PAGE OR A STATE with one part replaced

abbrev pub with_flags : Page → ℕ → Page
with_flags p x = record { flags = x; error = p.error; ddrb = p.ddrb; portb = p.portb; ddrc = p.ddrc; portc = p.portc; ddrd = p.ddrd; portd = p.portd; config = p.config; configured = p.configured; size = p.size; packet = p.packet; timings = p.timings }

abbrev pub with_error : Page → ℕ → Page
with_error p x = record { flags = p.flags; error = x; ddrb = p.ddrb; portb = p.portb; ddrc = p.ddrc; portc = p.portc; ddrd = p.ddrd; portd = p.portd; config = p.config; configured = p.configured; size = p.size; packet = p.packet; timings = p.timings }

abbrev pub with_register : Page → PortRegister → ℕ → Page
with_register p Ddrb x = record { flags = p.flags; error = p.error; ddrb = x; portb = p.portb; ddrc = p.ddrc; portc = p.portc; ddrd = p.ddrd; portd = p.portd; config = p.config; configured = p.configured; size = p.size; packet = p.packet; timings = p.timings }
with_register p Portb x = record { flags = p.flags; error = p.error; ddrb = p.ddrb; portb = x; ddrc = p.ddrc; portc = p.portc; ddrd = p.ddrd; portd = p.portd; config = p.config; configured = p.configured; size = p.size; packet = p.packet; timings = p.timings }
with_register p Ddrc x = record { flags = p.flags; error = p.error; ddrb = p.ddrb; portb = p.portb; ddrc = x; portc = p.portc; ddrd = p.ddrd; portd = p.portd; config = p.config; configured = p.configured; size = p.size; packet = p.packet; timings = p.timings }
with_register p Portc x = record { flags = p.flags; error = p.error; ddrb = p.ddrb; portb = p.portb; ddrc = p.ddrc; portc = x; ddrd = p.ddrd; portd = p.portd; config = p.config; configured = p.configured; size = p.size; packet = p.packet; timings = p.timings }
with_register p Ddrd x = record { flags = p.flags; error = p.error; ddrb = p.ddrb; portb = p.portb; ddrc = p.ddrc; portc = p.portc; ddrd = x; portd = p.portd; config = p.config; configured = p.configured; size = p.size; packet = p.packet; timings = p.timings }
with_register p Portd x = record { flags = p.flags; error = p.error; ddrb = p.ddrb; portb = p.portb; ddrc = p.ddrc; portc = p.portc; ddrd = p.ddrd; portd = x; config = p.config; configured = p.configured; size = p.size; packet = p.packet; timings = p.timings }

abbrev pub configured_as : Page → ℕ → Page
configured_as p x = record { flags = p.flags; error = p.error; ddrb = p.ddrb; portb = p.portb; ddrc = p.ddrc; portc = p.portc; ddrd = p.ddrd; portd = p.portd; config = x; configured = true; size = p.size; packet = p.packet; timings = p.timings }

abbrev pub with_size : Page → ℕ → Page
with_size p x = record { flags = p.flags; error = p.error; ddrb = p.ddrb; portb = p.portb; ddrc = p.ddrc; portc = p.portc; ddrd = p.ddrd; portd = p.portd; config = p.config; configured = p.configured; size = x; packet = p.packet; timings = p.timings }

abbrev pub with_packet : Page → List ℕ → Page
with_packet p r = record { flags = p.flags; error = p.error; ddrb = p.ddrb; portb = p.portb; ddrc = p.ddrc; portc = p.portc; ddrd = p.ddrd; portd = p.portd; config = p.config; configured = p.configured; size = p.size; packet = r; timings = p.timings }

abbrev pub with_timings : Page → List ℕ → Page
with_timings p ts = record { flags = p.flags; error = p.error; ddrb = p.ddrb; portb = p.portb; ddrc = p.ddrc; portc = p.portc; ddrd = p.ddrd; portd = p.portd; config = p.config; configured = p.configured; size = p.size; packet = p.packet; timings = ts }

abbrev pub with_page : State → Page → State
with_page s p = record { page = p; shared = s.shared; wait = s.wait; held = s.held; drop = s.drop }

abbrev pub with_shared : State → Shared → State
with_shared s h = record { page = s.page; shared = h; wait = s.wait; held = s.held; drop = s.drop }

-- the packet register as an exchange leaves it
abbrev pub with_received : State → List ℕ → State
with_received s r = with_page s (with_packet s.page r)

-- the wait goes on, with what is held
abbrev pub holding : State → Wait → List ℕ → State
holding s w h = record { page = s.page; shared = s.shared; wait = w; held = h; drop = s.drop }

-- a wait begins, and nothing is held yet
abbrev pub waiting : State → Wait → State
waiting s w = holding s w (zeros held_bytes)

-- the wait is over, and nothing is held
abbrev pub ended : State → State
ended s = waiting s Nothing

-- a drop pending or not: "The state remembers the drop until that byte, even a 00, comes" (02, Ask 2)
abbrev pub with_drop : State → Bool → State
with_drop s pending = record { page = s.page; shared = s.shared; wait = s.wait; held = s.held; drop = pending }

-- whether nothing is waited for
abbrev pub is_idle : Wait → Bool
is_idle Nothing = true
is_idle (One o) = false
is_idle Extended = false
is_idle (Packet left exchange) = false
is_idle (Timings left) = false

-- the bytes held with one more, at its place
abbrev pub held_with : List ℕ → ℕ → ℕ → List ℕ
held_with held at byte = set held at byte

-- the timings among them: the first nine
abbrev pub timings_in : List ℕ → List ℕ
timings_in held = take timing_bytes held
