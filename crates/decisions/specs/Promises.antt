-- What every event keeps to, whatever its samples: stated here, proved in proofs/ (Keeps, Rejects, Samples, Bounds).
use Rattle.std.specs.Prelude.{ℕ, ◌+◌, ◌*◌, ◌≤◌, ◌≡◌, true, List, [], ◌∷◌, length}
use Rattle.codes.specs.Codes.{rejecting}
use Rattle.wire.specs.Sample.{samplings, SameFrom}
use Rattle.packet.specs.Packet.{width}
use Rattle.registers.specs.Registers.{with_page, with_error, image_bytes}
use Rattle.registers.specs.Ranges.{InRange, Sized}
use Rattle.registers.specs.declared.State.{State}
use Rattle.registers.specs.declared.Event.{Event}
use Rattle.decisions.specs.Said.{codes_of, is_rejected}
use Rattle.decisions.specs.Effects.{Effect, sent_by}
use Rattle.decisions.specs.Events.{drop_after, effect_of}

-- `event_keeps` in proofs/Keeps.antt: no event breaks a range
abbrev pub Keeps : State → Event → List ℕ → ℕ → Type 0
Keeps s e ss m = InRange s → InRange (effect_of s e ss m).state

-- `event_drop` in proofs/Keeps.antt: a drop is pending after it exactly if it is a fault between commands
abbrev pub DropsAfter : State → Event → List ℕ → ℕ → Type 0
DropsAfter s e ss m = (effect_of s e ss m).state.drop ≡ drop_after s.wait e

-- `event_rejects` in proofs/Rejects.antt: it returns one code, 80, 84 or 40; "of the state it touches only ERROR", which holds that
-- code then; and it moves no pin and uses no sample
pub record OnlyError (s : State) (x : Effect) : Type 0 where
  pub code : ℕ
  pub returned : codes_of x.said ≡ code ∷ []
  pub rejects : rejecting code ≡ true
  pub state : x.state ≡ with_page s (with_error s.page code)
  pub actions : x.actions ≡ []
  pub used : x.used ≡ 0

abbrev pub Rejects : State → Event → List ℕ → ℕ → Type 0
Rejects s e ss m = is_rejected (effect_of s e ss m).said ≡ true → OnlyError s (effect_of s e ss m)

-- `event_takes` in proofs/Samples.antt: the samples used are those taken, by the actions with verb 3 or 7
abbrev pub EventTakes : State → Event → List ℕ → ℕ → Type 0
EventTakes s e ss m = InRange s → Sized s → (effect_of s e ss m).used ≡ samplings (effect_of s e ss m).actions

-- `event_same` in proofs/Samples.antt: samples that agree on the used places from the mark on give the same effect
abbrev pub EventSame : State → Event → List ℕ → ℕ → List ℕ → ℕ → Type 0
EventSame s e ss m us k = SameFrom (effect_of s e ss m).used ss m us k → effect_of s e ss m ≡ effect_of s e us k

-- `event_actions`, `event_replies` in proofs/Bounds.antt: the most actions of an event are an exchange's, four a bit and one
-- before; the most reply bytes are the ten of 06
abbrev pub most_actions : ℕ
most_actions = 1 + 4 * width

abbrev pub most_replies : ℕ
most_replies = image_bytes

abbrev pub FewActions : State → Event → List ℕ → ℕ → Type 0
FewActions s e ss m = InRange s → length (effect_of s e ss m).actions ≤ most_actions

abbrev pub FewReplies : State → Event → List ℕ → ℕ → Type 0
FewReplies s e ss m = InRange s → Sized s → length (sent_by (effect_of s e ss m)) ≤ most_replies
