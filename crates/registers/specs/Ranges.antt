-- The ranges of a state (01, "Refusal numbers", row 1): the test, and the facts that it stands for.
use Rattle.std.specs.Prelude.{ℕ, ◌+◌, ◌/◌, ◌%◌, ◌<◌, ◌≤◌, ◌≡◌, Bool, true, false, cond, ◌&&◌, ◌↔◌, length, eqb, leb, ltb}
use Rattle.packet.specs.Packet.{width, register_bytes, packet_bytes}
use Rattle.registers.specs.Registers.{Page, State, Operand, ToPort, ToCycles, ToI2c, ToConfig, ToSize, ToOneWire, ToOneWireBit, ToOneWireStrong, Wait, Nothing, One, Extended, Packet, Timings, i2c_selected, spi_selected, one_wire_selected, bits_in, is_idle, timing_bytes, image_bytes, serial_bytes}

-- how many interfaces are selected
abbrev pub selected_count : ℕ → ℕ
selected_count flags = flags % 2 + flags / 2 % 2 + flags / 4 % 2

-- a wait for an operand: not "of an interface not selected"
abbrev pub operand_fits : Operand → ℕ → Bool
operand_fits (ToPort r) flags = true
operand_fits ToCycles flags = true
operand_fits ToI2c flags = i2c_selected flags
operand_fits ToConfig flags = spi_selected flags
operand_fits ToSize flags = spi_selected flags
operand_fits ToOneWire flags = one_wire_selected flags
operand_fits ToOneWireBit flags = one_wire_selected flags
operand_fits ToOneWireStrong flags = one_wire_selected flags

-- a packet wait: selected, configured, "for 1 to ceil(N/8) bytes"; a timing wait: selected, "for 1 to 9"
abbrev pub wait_fits : Wait → ℕ → Bool → ℕ → Bool
wait_fits Nothing flags configured n = true
wait_fits (One o) flags configured n = operand_fits o flags
wait_fits Extended flags configured n = true
wait_fits (Packet left exchange) flags configured n = spi_selected flags && configured && leb 1 left && leb left (packet_bytes n)
wait_fits (Timings left) flags configured n = one_wire_selected flags && leb 1 left && leb left timing_bytes

-- in the table's order: two interfaces, flag bits 5 to 7, size register over 63, SPI configuration over 7, C 6, 7, D 0, 1
abbrev pub page_fits : Page → Bool
page_fits p =
    leb (selected_count p.flags) 1 && ltb p.flags 32 && ltb p.size width && leb p.config 7
    && ltb p.ddrc 64 && ltb p.portc 64 && eqb (p.ddrd % 4) 0 && eqb (p.portd % 4) 0

-- "1 also for a drop beside a wait" (02, Ask 2)
abbrev pub drop_fits : Bool → Wait → Bool
drop_fits pending w = cond pending (is_idle w) true

abbrev pub state_fits : State → Bool
state_fits s = page_fits s.page && wait_fits s.wait s.page.flags s.page.configured (bits_in s.page) && drop_fits s.drop s.wait

-- THE FACTS, by name, over the registers that have a range
pub record Ranges (flags size config ddrc portc ddrd portd : ℕ) : Type 0 where
  pub one_interface : selected_count flags ≤ 1
  pub flag_bits : flags < 32
  pub size_register : size < width
  pub configuration : config ≤ 7
  pub c_direction : ddrc < 64
  pub c_latch : portc < 64
  pub d_direction : ddrd % 4 ≡ 0
  pub d_latch : portd % 4 ≡ 0

abbrev pub PageInRange : Page → Type 0
PageInRange p = Ranges p.flags p.size p.config p.ddrc p.portc p.ddrd p.portd

-- a wait for an operand is of a selected interface
abbrev pub OperandInRange : Operand → ℕ → Type 0
OperandInRange (ToPort r) flags = Unit {0}
OperandInRange ToCycles flags = Unit {0}
OperandInRange ToI2c flags = i2c_selected flags ≡ true
OperandInRange ToConfig flags = spi_selected flags ≡ true
OperandInRange ToSize flags = spi_selected flags ≡ true
OperandInRange ToOneWire flags = one_wire_selected flags ≡ true
OperandInRange ToOneWireBit flags = one_wire_selected flags ≡ true
OperandInRange ToOneWireStrong flags = one_wire_selected flags ≡ true

pub record PacketWait (flags : ℕ) (configured : Bool) (n left : ℕ) : Type 0 where
  pub spi_selected : spi_selected flags ≡ true
  pub spi_configured : configured ≡ true
  pub one_or_more : 1 ≤ left
  pub packet_or_less : left ≤ packet_bytes n

pub record TimingWait (flags left : ℕ) : Type 0 where
  pub one_wire_selected : one_wire_selected flags ≡ true
  pub one_or_more : 1 ≤ left
  pub nine_or_less : left ≤ timing_bytes

abbrev pub WaitInRange : Wait → ℕ → Bool → ℕ → Type 0
WaitInRange Nothing flags configured n = Unit {0}
WaitInRange (One o) flags configured n = OperandInRange o flags
WaitInRange Extended flags configured n = Unit {0}
WaitInRange (Packet left exchange) flags configured n = PacketWait flags configured n left
WaitInRange (Timings left) flags configured n = TimingWait flags left

pub record InRange (s : State) : Type 0 where
  pub page : PageInRange s.page
  pub wait : WaitInRange s.wait s.page.flags s.page.configured (bits_in s.page)
  -- a drop is pending only where nothing is waited for
  pub no_drop_beside_a_wait : s.drop ≡ true → s.wait ≡ Nothing

-- 01, "Grammar": "A start between commands breaks no range and waits for nothing"; it "starts with no drop pending" (02, Ask 2)
pub record BetweenCommands (s : State) : Type 0 where
  pub in_range : InRange s
  pub waits_for_nothing : s.wait ≡ Nothing
  pub no_drop : s.drop ≡ false

-- THEOREM (proofs/InRange.antt, `range_test`): the test says exactly these facts
abbrev pub RangeTest : State → Type 0
RangeTest s = (state_fits s ≡ true) ↔ InRange s

-- the arrays of a state have their sizes
pub record Sized (s : State) : Type 0 where
  pub eprom : length s.shared.eprom ≡ image_bytes
  pub serial : length s.shared.serial ≡ serial_bytes
  pub packet : length s.page.packet ≡ register_bytes
  pub timings : length s.page.timings ≡ timing_bytes
