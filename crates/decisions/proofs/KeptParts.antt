-- What keeps the registers in their ranges. Assumes nothing.
use Prim.Native.Nat.{ℕ, ◌+◌, ◌*◌, ◌/◌, ◌%◌, ◌<◌}
use mathlib.Core.Path.{◌≡◌}
use mathlib.Core.Bool.{Bool}
use native.Mathlib.Omega.{arith}
use Rattle.registers.specs.Registers.{kept_flags, register_of, with_register, protected, with_flags}
use Rattle.registers.specs.Ranges.{selected_count, PageInRange}
use Rattle.registers.proofs.Flags.{same_selected}
use Rattle.registers.specs.declared.Page.{Page}
use Rattle.registers.specs.declared.PortRegister.{PortRegister}
use Rattle.registers.specs.declared.PortRegister.TheVariants as r
use Rattle.registers.specs.Bits.{with_bit}
use Rattle.registers.specs.declared.Bit.{Bit}
use Rattle.registers.specs.declared.Bit.TheVariants.{Three, Four, Five}
use Rattle.wire.proofs.Choices.{at_most}

-- PORT REGISTERS

abbrev pub Fits : PortRegister → ℕ → Type 0
Fits r.Ddrb x = Unit {0}
Fits r.Portb x = Unit {0}
Fits r.Ddrc x = x < 64
Fits r.Portc x = x < 64
Fits r.Ddrd x = x % 4 ≡ 0
Fits r.Portd x = x % 4 ≡ 0

pub page_register : (p : Page) (x : PortRegister) (n : ℕ) → PageInRange p → Fits x n → PageInRange (with_register p x n)
page_register p r.Ddrb n q f = q
page_register p r.Portb n q f = q
page_register p r.Ddrc n q f = record { one_interface = q.one_interface; flag_bits = q.flag_bits; size_register = q.size_register; configuration = q.configuration; c_direction = f; c_latch = q.c_latch; d_direction = q.d_direction; d_latch = q.d_latch }
page_register p r.Portc n q f = record { one_interface = q.one_interface; flag_bits = q.flag_bits; size_register = q.size_register; configuration = q.configuration; c_direction = q.c_direction; c_latch = f; d_direction = q.d_direction; d_latch = q.d_latch }
page_register p r.Ddrd n q f = record { one_interface = q.one_interface; flag_bits = q.flag_bits; size_register = q.size_register; configuration = q.configuration; c_direction = q.c_direction; c_latch = q.c_latch; d_direction = f; d_latch = q.d_latch }
page_register p r.Portd n q f = record { one_interface = q.one_interface; flag_bits = q.flag_bits; size_register = q.size_register; configuration = q.configuration; c_direction = q.c_direction; c_latch = q.c_latch; d_direction = q.d_direction; d_latch = f }

keep_c_lem : (old new : ℕ) → old < 64 → new % 64 + old / 64 * 64 < 64
keep_c_lem old new h = omega arith

keep_d_lem : (old new : ℕ) → old % 4 ≡ 0 → (old % 4 + new / 4 % 8 * 4 + old / 32 % 2 * 32 + new / 64 * 64) % 4 ≡ 0
keep_d_lem old new h = omega arith

-- an operand leaves a port register in its range
pub protected_fits : (p : Page) (x : PortRegister) (n : ℕ) → PageInRange p → Fits x (protected x (register_of p x) n)
protected_fits p r.Ddrb n q = tt
protected_fits p r.Portb n q = tt
protected_fits p r.Ddrc n q = keep_c_lem p.ddrc n q.c_direction
protected_fits p r.Portc n q = keep_c_lem p.portc n q.c_latch
protected_fits p r.Ddrd n q = keep_d_lem p.ddrd n q.d_direction
protected_fits p r.Portd n q = keep_d_lem p.portd n q.d_latch

-- a bit that a command sets or clears leaves a port register in its range
low_two : (b : Bit) (on : Bool) (x : ℕ) → x % 4 ≡ 0 → with_bit b on x % 4 ≡ 0
low_two Three on x h = omega arith
low_two Four on x h = omega arith
low_two Five on x h = omega arith

low_six : (b : Bit) (on : Bool) (x : ℕ) → x < 64 → with_bit b on x < 64
low_six Three on x h = omega (arith, at_most on 1)
low_six Four on x h = omega (arith, at_most on 1)
low_six Five on x h = omega (arith, at_most on 1)

pub bit_fits : (r : PortRegister) (b : Bit) (on : Bool) (x : ℕ) → Fits r x → Fits r (with_bit b on x)
bit_fits r.Ddrb b on x f = tt
bit_fits r.Portb b on x f = tt
bit_fits r.Ddrc b on x f = low_six b on x f
bit_fits r.Portc b on x f = low_six b on x f
bit_fits r.Ddrd b on x f = low_two b on x f
bit_fits r.Portd b on x f = low_two b on x f

pub register_fits : (p : Page) (r : PortRegister) → PageInRange p → Fits r (register_of p r)
register_fits p r.Ddrb q = tt
register_fits p r.Portb q = tt
register_fits p r.Ddrc q = q.c_direction
register_fits p r.Portc q = q.c_latch
register_fits p r.Ddrd q = q.d_direction
register_fits p r.Portd q = q.d_latch

-- FLAGS

-- the low three bits decide how many interfaces are selected
same_count : (f g : ℕ) → f % 8 ≡ g % 8 → selected_count f ≡ selected_count g
same_count f g h = let t = same_selected f g h in λ i. t.i2c i + t.spi i + t.one_wire i

-- an interface's flag beside those that are kept
pub flag_count : (f flag : ℕ) → flag < 8 → selected_count (kept_flags f + flag) ≡ selected_count flag
flag_count f flag h = same_count (kept_flags f + flag) flag (omega arith)

pub page_flags : (p : Page) (f : ℕ) → PageInRange p → f < 32 → f % 8 ≡ p.flags % 8 → PageInRange (with_flags p f)
page_flags p f q h e = record { one_interface = rw (same_count f p.flags e) q.one_interface; flag_bits = h; size_register = q.size_register; configuration = q.configuration; c_direction = q.c_direction; c_latch = q.c_latch; d_direction = q.d_direction; d_latch = q.d_latch }
