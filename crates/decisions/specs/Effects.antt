-- What an event does, as a value: its decision carried out with the samples.
use Rattle.std.specs.Prelude.{ℕ, cond, List, [], ◌∷◌, map, eqb}
use Rattle.packet.specs.Packet.{low_bytes}
use Rattle.wire.specs.Action.{Action}
use Rattle.registers.specs.Registers.{reports_on, with_page, with_error, with_received, bits_in}
use Rattle.registers.specs.declared.State.{State}
use Rattle.signals.specs.Waveforms.{Wave, wave_of}
use Rattle.decisions.specs.Said.{Said, returned, sent, returned_and_sent, error_after, replies_of}
use Rattle.decisions.specs.Decisions.{Decision, Answer, Silent, Returns, ReturnsTwice, ReturnsAndSends, Checked, Sends, SendsSample, SendsLevel, SendsEprom, SendsSerial, SendsTimings, SendsPacket, SendsLow, ReturnsThenLow}
use Rattle.decisions.specs.Changes.{changed}

-- WHAT IS SAID, of the state after the exchange and the byte that the samples gave
abbrev pub said_of : State → ℕ → Answer → List Said
said_of s x Silent = []
said_of s x (Returns code) = returned code ∷ []
said_of s x ReturnsTwice = returned 0x00 ∷ returned 0x00 ∷ []
said_of s x (ReturnsAndSends code) = returned_and_sent code ∷ []
-- 00 if the sample was low, else the code
said_of s x (Checked code) = returned (cond (eqb x 0) 0x00 code) ∷ []
said_of s x (Sends v) = sent v ∷ []
said_of s x SendsSample = sent x ∷ []
-- "0F low or 8F high"
said_of s x SendsLevel = sent (cond (eqb x 0) 0x0F 0x8F) ∷ []
said_of s x SendsEprom = map sent s.shared.eprom
said_of s x SendsSerial = map sent s.shared.serial
said_of s x SendsTimings = map sent s.page.timings
said_of s x SendsPacket = map sent s.page.packet
said_of s x SendsLow = map sent (low_bytes (bits_in s.page) s.page.packet)
said_of s x ReturnsThenLow = returned 0x00 ∷ map sent (low_bytes (bits_in s.page) s.page.packet)

-- THE EVENT AS A VALUE: the new state, what is said, the actions, the samples used
pub record Effect : Type 0 where
  pub state : State
  pub said : List Said
  pub actions : List Action
  pub used : ℕ

-- the reply bytes: "if REPORTS_EN is set after the command"
abbrev pub sent_by : Effect → List ℕ
sent_by x = replies_of (reports_on x.state.page.flags) x.said

-- ERROR is what was said
abbrev pub with_error_of : State → List Said → State
with_error_of s xs = with_page s (with_error s.page (error_after s.page.error xs))

-- the state is changed, the packet register is what the waveform left, and ERROR what was said
unfoldable pub effect_from : State → Answer → Wave → Effect
effect_from s answer x =
    let t = with_received s x.packet in
    let xs = said_of t x.byte answer in
    record { state = with_error_of t xs; said = xs; actions = x.actions; used = x.used }

-- with the samples from place m on
abbrev pub carried_out : State → Decision → List ℕ → ℕ → Effect
carried_out s d ss m = effect_from (changed s d.change) d.answer (wave_of (changed s d.change).page d.wave ss m)
