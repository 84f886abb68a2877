-- For the contract of `measure`, which measures an event before anything is written; 01 does not speak of it.
use Rattle.std.specs.Prelude.{ℕ, ◌*◌, ◌<◌, ◌≡◌, true, List, length}
use Rattle.wire.specs.Buffer.{fits_in}
use Rattle.packet.specs.Packet.{width}
use Rattle.registers.specs.declared.State.{State}
use Rattle.registers.specs.declared.Event.{Event}
use Rattle.signals.specs.Waveforms.{wave_of}
use Rattle.decisions.specs.Said.{codes_of}
use Rattle.decisions.specs.Effects.{sent_by}
use Rattle.decisions.specs.Events.{effect_of}
use Rattle.effects.specs.Replies.{reply_bytes}
use Rattle.effects.specs.Returning.{codes_in}
use Rattle.bridge.specs.Answering.{Bridge, Lent, effect, accepted, answer_of}
pub use Rattle.bridge.specs.declared.measuring.Measured.{Measured}

-- what is measured is the event's effect, and the size register stays in range
pub record MeasuredAs (s : State) (e : Event) (ss : List ℕ) (m : ℕ) (r : Measured) : Type 0 where
  pub used : r.used ≡ (effect_of s e ss m).used
  pub bytes : r.bytes ≡ 4 * length (effect_of s e ss m).actions
  pub state : r.state ≡ (effect_of s e ss m).state
  pub codes : codes_in r.returned ≡ codes_of (effect_of s e ss m).said
  pub replies : reply_bytes r.state r.reply ≡ sent_by (effect_of s e ss m)
  pub size : r.size ≡ length (sent_by (effect_of s e ss m))
  pub actions : (wave_of r.page r.wave ss m).actions ≡ (effect_of s e ss m).actions
  pub page_small : r.page.size < width
  pub state_small : r.state.page.size < width

-- a call that is taken: measured, with room for what it writes
pub record Admitted (b : Bridge) (e : Event) (l : Lent) (r : Measured) : Type 0 where
  pub measured : MeasuredAs b.state e l.samples l.sampled r
  pub actions_fit : fits_in (length l.actions) l.acted r.bytes ≡ true
  pub replies_fit : fits_in (length l.replies) l.replied r.size ≡ true
  pub taken : accepted (effect b e l) l ≡ answer_of b e l
