-- What a call of the bridge gives (01, "What goes in and comes out", "Refusal numbers"). The contract of `step` says that it gives
-- this, and the demands (Demands.antt) are about it.
use Rattle.std.specs.Prelude.{ℕ, Bool, cond, List, [], length, Result, Ok, Err}
use Rattle.wire.specs.Action.{bytes_of}
use Rattle.wire.specs.Buffer.{overwrite, fits_in}
use Rattle.registers.specs.Ranges.{state_fits}
use Rattle.registers.specs.declared.State.{State}
use Rattle.registers.specs.declared.Event.{Event}
use Rattle.decisions.specs.Said.{codes_of}
use Rattle.decisions.specs.Effects.{Effect, sent_by}
use Rattle.decisions.specs.Events.{effect_of}
use Rattle.effects.specs.Returning.{codes_in}
use Rattle.refusals.specs.declared.Refusal.{Refusal}
use Rattle.refusals.specs.declared.Refusal.TheVariants.{Ranges, Samples, Actions, Replies}
pub use Rattle.bridge.specs.declared.Bridge.{Bridge}
pub use Rattle.bridge.specs.declared.Stepped.{Stepped}

-- what a call is lent: samples, and a buffer each for actions and replies; each with its mark (01's term), the bytes of it used
pub record Lent : Type 0 where
  pub samples : List ℕ
  pub sampled : ℕ
  pub actions : List ℕ
  pub acted : ℕ
  pub replies : List ℕ
  pub replied : ℕ

abbrev pub lent : List ℕ → ℕ → List ℕ → ℕ → List ℕ → ℕ → Lent
lent ss m as' a rs r = record { samples = ss; sampled = m; actions = as'; acted = a; replies = rs; replied = r }

-- what a call answers: the bridge, taken or why it was refused, the codes returned, and "three counts: samples used, reply bytes, actions"
pub record Answered : Type 0 where
  pub bridge : Bridge
  pub outcome : Result (Unit {0}) Refusal
  pub codes : List ℕ
  pub samples : ℕ
  pub replies : ℕ
  pub actions : ℕ

-- .. as `step` hands it back
abbrev pub answered : Stepped → Answered
answered r = record { bridge = r.bridge; outcome = r.outcome; codes = codes_in r.returned; samples = r.samples; replies = r.replies; actions = r.actions }

-- what a call gives: its answer, and what it leaves in the two buffers
pub record Given : Type 0 where
  pub answer : Answered
  pub actions : List ℕ
  pub replies : List ℕ

abbrev pub given : Answered → List ℕ → List ℕ → Given
given x as' rs = record { answer = x; actions = as'; replies = rs }

-- "Each returns what it was given, with zero counts and lent memory untouched"; an event that is refused returns no code
abbrev pub refusal : Bridge → Refusal → Answered
refusal b why = record { bridge = b; outcome = Err why; codes = []; samples = 0; replies = 0; actions = 0 }

abbrev pub refused : Bridge → Lent → Refusal → Given
refused b l why = given (refusal b why) l.actions l.replies

-- the event with what is lent
abbrev pub effect : Bridge → Event → Lent → Effect
effect b e l = effect_of b.state e l.samples l.sampled

abbrev pub acceptance : State → List ℕ → ℕ → ℕ → ℕ → Answered
acceptance s codes samples replies actions = record { bridge = record { state = s }; outcome = Ok tt; codes = codes; samples = samples; replies = replies; actions = actions }

-- "Replies and actions of an event are written to the unused rest of a lent buffer"
abbrev pub accepted : Effect → Lent → Given
accepted x l = given (acceptance x.state (codes_of x.said) x.used (length (sent_by x)) (length x.actions)) (overwrite l.actions l.acted (bytes_of x.actions)) (overwrite l.replies l.replied (sent_by x))

-- a call is refused unless a test says true
abbrev pub unless : Bool → Given → Given → Given
unless fits refusal rest = cond fits rest refusal

-- "The lowest number that applies is given"
unfoldable pub answer_of : Bridge → Event → Lent → Given
answer_of b e l =
    unless (state_fits b.state) (refused b l Ranges)
    (unless (fits_in (length l.samples) l.sampled (effect b e l).used) (refused b l Samples)
    (unless (fits_in (length l.actions) l.acted (length (bytes_of (effect b e l).actions))) (refused b l Actions)
    (unless (fits_in (length l.replies) l.replied (length (sent_by (effect b e l)))) (refused b l Replies)
    (accepted (effect b e l) l))))
