-- What switch-on gives (01, "Switch-on"): the bridge, the actions, and the settings used; refusals 11 and 3.
use Rattle.std.specs.Prelude.{ℕ, Bool, false, cond, ◌&&◌, List, [], ◌∷◌, ◌++◌, eqb, get_or, length, Ok, Err}
use Rattle.wire.specs.Action.{Action, bytes_of, cs, ss}
use Rattle.wire.specs.Buffer.{overwrite, fits_in}
use Rattle.packet.specs.Register.{zeros}
use Rattle.packet.specs.Packet.{register_bytes}
use Rattle.registers.specs.Registers.{i2c_selected, spi_selected, autoload_on, timing_bytes, image_bytes, serial_bytes, held_bytes}
use Rattle.registers.specs.declared.Page.{Page}
use Rattle.registers.specs.declared.State.{State}
use Rattle.registers.specs.declared.Wait.TheVariants as v
use Rattle.lines.specs.Lines.{high, port_actions}
use Rattle.settings.specs.Images.{is_good, page_of}
use Rattle.refusals.specs.declared.Refusal.{Refusal}
use Rattle.refusals.specs.declared.Refusal.TheVariants.{Actions, Factory}
pub use Rattle.switch_on.specs.declared.Device.{Device}
pub use Rattle.switch_on.specs.declared.SwitchedOn.{SwitchedOn}

-- the image used: "the stored, if good with AUTOLOAD_EN set, else the factory one"
unfoldable pub used_of : List ℕ → List ℕ → List ℕ
used_of stored factory = cond (is_good stored && autoload_on (get_or stored 0 0)) stored factory

-- the registers at switch-on are those of the image used
abbrev pub on_page : List ℕ → List ℕ → Page
on_page stored factory = page_of (used_of stored factory)

-- "EPROM holds the stored image if it has ten bytes, else the factory one"
abbrev pub eprom_of : List ℕ → List ℕ → List ℕ
eprom_of stored factory = cond (eqb (length stored) image_bytes) stored factory

-- "no wait; IOG count, version and serial are given"
abbrev pub state_of : Page → List ℕ → Device → State
state_of p eprom g = record { page = p; shared = record { eprom = eprom; cycles = g.cycles; version = g.version; serial = g.serial }; wait = v.Nothing; held = zeros held_bytes; drop = false }

-- "Actions: as reinit with the image's values, then CS or SS high."
abbrev pub select_actions : ℕ → List Action
select_actions flags = cond (i2c_selected flags) (high cs ∷ []) (cond (spi_selected flags) (high ss ∷ []) [])

abbrev pub on_actions : Page → List Action
on_actions p = port_actions p.ddrb p.portb p.ddrc p.portc p.ddrd p.portd ++ select_actions p.flags

-- "switch-on's 3 and 11 give an all-zero state"
abbrev pub zero_page : Page
zero_page = record { flags = 0; error = 0; ddrb = 0; portb = 0; ddrc = 0; portc = 0; ddrd = 0; portd = 0; config = 0; configured = false; size = 0; packet = zeros register_bytes; timings = zeros timing_bytes }

abbrev pub zero_state : State
zero_state = record { page = zero_page; shared = record { eprom = zeros image_bytes; cycles = 0; version = 0; serial = zeros serial_bytes }; wait = v.Nothing; held = zeros held_bytes; drop = false }

-- THE CALL: its answer, and the lent buffer after it
pub record Switched : Type 0 where
  pub answer : SwitchedOn
  pub buffer : List ℕ

abbrev pub switched : SwitchedOn → List ℕ → Switched
switched x buffer = record { answer = x; buffer = buffer }

-- "with zero counts and lent memory untouched"
abbrev pub refusal : Refusal → SwitchedOn
refusal why = record { bridge = record { state = zero_state }; outcome = Err why; actions = 0 }

abbrev pub on_state : List ℕ → List ℕ → Device → State
on_state stored factory d = state_of (on_page stored factory) (eprom_of stored factory) d

-- whether the actions fit after a mark of a buffer of a size
abbrev pub actions_fit : List ℕ → List ℕ → ℕ → ℕ → Bool
actions_fit stored factory size mark = fits_in size mark (length (bytes_of (on_actions (on_page stored factory))))

-- "11 before 3"
abbrev pub reason_for : List ℕ → Refusal
reason_for factory = cond (is_good factory) Actions Factory

-- "The settings used are a part of one of two lent images"; refused, "the empty front part of the factory image"
abbrev pub is_on : List ℕ → List ℕ → ℕ → ℕ → Bool
is_on stored factory size mark = is_good factory && actions_fit stored factory size mark

unfoldable pub settings_of : List ℕ → List ℕ → ℕ → ℕ → List ℕ
settings_of stored factory size mark = cond (is_on stored factory size mark) (used_of stored factory) []

unfoldable pub switch_of : List ℕ → List ℕ → Device → List ℕ → ℕ → Switched
switch_of stored factory d buffer mark =
    cond (is_on stored factory (length buffer) mark)
    (switched
    (record { bridge = record { state = on_state stored factory d }; outcome = Ok tt; actions = length (on_actions (on_page stored factory)) })
    (overwrite buffer mark (bytes_of (on_actions (on_page stored factory)))))
    (switched (refusal (reason_for factory)) buffer)
