-- A command stream with line faults among its bytes: for whoever writes one and counts its bytes, as a script does.
use Rattle.std.specs.Prelude.{◌<◌, ◌≡◌, cond, List, [], ◌∷◌, is_err}
use Rattle.registers.specs.Ranges.{BetweenCommands}
use Rattle.registers.specs.declared.Event.{Event}
use Rattle.registers.specs.declared.Event.TheVariants as e
use Rattle.grammar.specs.Following.{undisturbed, after_fault, after_bytes}
use Rattle.grammar.specs.declared.following.Stream.{Stream}
use Rattle.bridge.specs.Answering.{Bridge, Lent, answer_of}
use Rattle.bridge.specs.Demands.{outcome}
use Rattle.bridge.specs.Views.{context_of}

-- calls that each hand over a byte or a fault, whatever is lent, refused ones included
abbrev pub IsEvent : Event → Type 0
IsEvent (e.Byte x) = x < 256
IsEvent (e.Fault f) = Unit {0}

pub record EventCall : Type 0 where
  pub event : Event
  pub is_event : IsEvent event
  pub lent : Lent

abbrev pub after_call : Bridge → EventCall → Bridge
after_call b k = (answer_of b k.event k.lent).answer.bridge

abbrev pub after_calls : Bridge → List EventCall → Bridge
after_calls b [] = b
after_calls b (k ∷ ks) = after_calls (after_call b k) ks

-- where the stream stands after an event, and after those of the calls not refused
abbrev pub stream_after : Stream → Event → Stream
stream_after t (e.Byte x) = after_bytes t (x ∷ [])
stream_after t (e.Fault f) = after_fault t

abbrev pub stream_along : Stream → Bridge → List EventCall → Stream
stream_along t b [] = t
stream_along t b (k ∷ ks) = stream_along (cond (is_err (outcome b k.event k.lent)) t (stream_after t k.event)) (after_call b k) ks

-- THEOREM (proofs/Streams.antt, `stream_followed`): the bridge's context and its drop are where the events lead by themselves
pub record Followed (b : Bridge) (t : Stream) : Type 0 where
  pub context : context_of b.state ≡ t.scanner.context
  pub drop : b.state.drop ≡ t.drop

abbrev pub StreamFollowed : Type 0
StreamFollowed = (b : Bridge) → BetweenCommands b.state → (ks : List EventCall) → Followed (after_calls b ks) (stream_along (undisturbed (context_of b.state)) b ks)
