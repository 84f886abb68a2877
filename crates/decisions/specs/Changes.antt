-- What each change means (01, "Registers and common commands", "SPI", "1-Wire"): the state after it, but for what depends on samples.
use Rattle.std.specs.Prelude.{ℕ, false, List}
use Rattle.packet.specs.Packet.{width, loaded}
use Rattle.registers.specs.Registers.{kept_flags, high_first, bits_in, with_register, with_flags, with_error, with_page, with_shared, with_size, with_packet, with_timings, configured_as, waiting, holding, ended, held_with, timings_in}
use Rattle.registers.specs.declared.Page.{Page}
use Rattle.registers.specs.declared.Shared.{Shared}
use Rattle.registers.specs.declared.State.{State}
use Rattle.registers.specs.declared.PortRegister.TheVariants as r
use Rattle.settings.specs.Images.{image_of}
use Rattle.decisions.specs.Decisions.{Change}
use Rattle.decisions.specs.declared.Change.TheVariants as c

-- 00: "clears common flags but bits 3 and 4, SPI configuration, configured mark, size and ERROR; reinit .. Packet register,
-- timings and EPROM stay"
abbrev pub reset_page : Page → Page
reset_page p = record { flags = kept_flags p.flags; error = 0; ddrb = 0; portb = 0; ddrc = 0; portc = 0; ddrd = 0; portd = 0; config = 0; configured = false; size = 0; packet = p.packet; timings = p.timings }

-- 01, 02, 03: other flags, and "all directions and latches 0"; "SPI settings stay"
abbrev pub reinited : Page → ℕ → Page
reinited p f = record { flags = f; error = p.error; ddrb = 0; portb = 0; ddrc = 0; portc = 0; ddrd = 0; portd = 0; config = p.config; configured = p.configured; size = p.size; packet = p.packet; timings = p.timings }

-- 05: the EPROM holds the image of the page
abbrev pub with_eprom : Shared → List ℕ → Shared
with_eprom h image = record { eprom = image; cycles = h.cycles; version = h.version; serial = h.serial }

-- "one operand becomes the IOG count"
abbrev pub with_cycles : Shared → ℕ → Shared
with_cycles h x = record { eprom = h.eprom; cycles = x; version = h.version; serial = h.serial }

-- 44: "the low N bits are kept, the rest zero; with bit 2 of CONFIG_SPI they move up by 64 − N"
abbrev pub with_loaded : Page → List ℕ → Page
with_loaded p held = with_packet p (loaded width (bits_in p) (high_first p.config) held)

abbrev pub changed : State → Change → State
changed s c.Nothing = s
changed s c.Reset = with_page s (reset_page s.page)
changed s (c.Select f) = with_page s (reinited s.page f)
changed s c.ClearError = with_page s (with_error s.page 0)
changed s c.Save = with_shared s (with_eprom s.shared (image_of s.page))
changed s (c.Flags f) = with_page s (with_flags s.page f)
changed s (c.Latch x) = with_page s (with_register s.page r.Portd x)
changed s (c.Await v) = waiting s v
changed s c.EndWait = ended s
-- an operand, or a command after 1D, ends its wait
changed s (c.Store a x) = ended (with_page s (with_register s.page a x))
changed s (c.Cycles x) = ended (with_shared s (with_cycles s.shared x))
-- 40: "configured is marked"
changed s (c.Config x) = ended (with_page s (configured_as s.page x))
changed s (c.Size x) = ended (with_page s (with_size s.page x))
-- packet and timing bytes are held; the packet register "changes only at the last byte", the timings are "all stored at the ninth"
changed s (c.Hold v at b) = holding s v (held_with s.held at b)
changed s (c.LoadPacket at b) = ended (with_page s (with_loaded s.page (held_with s.held at b)))
changed s (c.LoadTimings at b) = ended (with_page s (with_timings s.page (timings_in (held_with s.held at b))))
