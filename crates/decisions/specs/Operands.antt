-- The bytes that a wait is for (01, "Registers and common commands", "I2C", "SPI", "1-Wire"): operands, packet and timing bytes.
use Rattle.std.specs.Prelude.{ℕ, ◌-◌, ◌%◌, Bool, true, false, cond, eqb}
use Rattle.packet.specs.Packet.{width, packet_bytes, size_register}
use Rattle.registers.specs.Registers.{register_of, protected, verb_of, line_of, timing_bytes}
use Rattle.registers.specs.declared.Page.{Page}
use Rattle.registers.specs.declared.PortRegister.{PortRegister}
use Rattle.registers.specs.declared.Operand.{Operand}
use Rattle.registers.specs.declared.Operand.TheVariants as o
use Rattle.registers.specs.declared.Wait.TheVariants as v
use Rattle.signals.specs.declared.Waveform.TheVariants as w
use Rattle.decisions.specs.Decisions.{Decision, Silent, Returns, ReturnsTwice, Checked, decision, ends, stores}
use Rattle.decisions.specs.declared.Change.TheVariants as c

-- "one operand is written with one action and no code (H). Protected bits keep their old bits"
abbrev pub port_clause : Page → PortRegister → ℕ → Decision
port_clause p r x =
    stores r (protected r (register_of p r) x) (w.Port (verb_of r) (line_of r) (protected r (register_of p r) x)) Silent

abbrev pub operand_clause : Page → Operand → ℕ → Decision
operand_clause p (o.ToPort r) x = port_clause p r x
-- "one operand becomes the IOG count, no code (H)"
operand_clause p o.ToCycles x = decision (c.Cycles x) w.Still Silent
-- 22: "returns 00 if low, else 20"
operand_clause p o.ToI2c x = ends (w.WriteI2c x) (Checked 0x20)
-- 40: "operand mod 8 is CONFIG_SPI, configured is marked; 00"
operand_clause p o.ToConfig x = decision (c.Config (x % 8)) w.Still (Returns 0x00)
-- 42: "register = (operand + 63) mod 64; 00"
operand_clause p o.ToSize x = decision (c.Size (size_register width x)) w.Still (Returns 0x00)
-- 61, 63, 67: "one operand, all or its low bit; 00"
operand_clause p o.ToOneWire x = ends (w.WriteOneWire x) (Returns 0x00)
operand_clause p o.ToOneWireBit x = ends (w.WriteOneWireBit x) (Returns 0x00)
operand_clause p o.ToOneWireStrong x = ends (w.WriteOneWireStrong x) (Returns 0x00)

-- the last packet byte: "then 00"; "4C is 44, then 46 after the last byte, both codes returned (H)"
abbrev pub loaded_clause : ℕ → ℕ → Bool → Decision
loaded_clause at x true = decision (c.LoadPacket at x) w.Exchange ReturnsTwice
loaded_clause at x false = decision (c.LoadPacket at x) w.Still (Returns 0x00)

-- a byte of a packet of n bits, where so many are to come with it
abbrev pub packet_clause : ℕ → ℕ → Bool → ℕ → Decision
packet_clause n left exchange x =
    let at = packet_bytes n - left in
    cond (eqb left 1) (loaded_clause at x exchange) (decision (c.Hold (v.Packet (left - 1) exchange) at x) w.Still Silent)

-- 65: "nine bytes, 00, all stored at the ninth"
abbrev pub timings_clause : ℕ → ℕ → Decision
timings_clause left x =
    let at = timing_bytes - left in
    cond (eqb left 1) (decision (c.LoadTimings at x) w.Still (Returns 0x00)) (decision (c.Hold (v.Timings (left - 1)) at x) w.Still Silent)
