-- The transcript of an event (01, "Session file"): the call for it, and the records that it, the end and a refusal write.
use Rattle.std.specs.Prelude.{ℕ, ◌+◌, ◌*◌, ◌≤◌, ◌≡◌, true, cond, List, [], ◌∷◌, ◌++◌, eqb, length, Ok}
use Rattle.wire.specs.Action.{bytes_of}
use Rattle.wire.specs.Buffer.{overwrite, fits_in}
use Rattle.packet.specs.Register.{zeros}
use Rattle.registers.specs.Ranges.{InRange, Sized}
use Rattle.registers.specs.declared.Event.{Event}
use Rattle.registers.specs.declared.Wait.{Wait}
use Rattle.decisions.specs.Promises.{most_actions, most_replies}
use Rattle.decisions.specs.Effects.{Effect, sent_by}
use Rattle.decisions.specs.Events.{effect_of}
use Rattle.bridge.specs.Answering.{Lent, lent, Given, effect, answer_of}
use Rattle.bridge.specs.declared.Bridge.{Bridge}
use Rattle.registers.specs.Registers.{is_idle}
use Rattle.refusals.specs.Refusals.{number_of}
use Rattle.refusals.specs.declared.Refusal.{Refusal}
use Rattle.records.specs.Records.{word16, word32, record_of}

-- THE CALL for an event with the samples unread: the bridge's own. "Every event is lent room enough, so 3 and 4 don't arise": here
-- just what it fills, and any other room gives the same (`AnyRoom`).
abbrev pub room : List ℕ → Effect → Lent
room ss x = lent ss 0 (zeros (length (bytes_of x.actions))) 0 (zeros (length (sent_by x))) 0

unfoldable pub call_of : Bridge → Event → List ℕ → Given
call_of b e ss = answer_of b e (room ss (effect_of b.state e ss 0))

-- WRITTEN OUT: "none if empty"
abbrev pub unless_empty : ℕ → List ℕ → List ℕ
unless_empty kind body = cond (eqb (length body) 0) [] (record_of kind body)

-- "Output per event: kind 0102 actions, then 0101 replies, none if empty"
abbrev pub output_of : Given → List ℕ
output_of g = unless_empty 0x0102 g.actions ++ unless_empty 0x0101 g.replies

-- "last 0104 with one byte, 1 if waiting"
abbrev pub last_of : Wait → List ℕ
last_of w = record_of 0x0104 (cond (is_idle w) 0 1 ∷ [])

-- "kind 01FF in place of 0104: number (16 bits), place (32 bits ..)"
abbrev pub refusal_of : Refusal → ℕ → List ℕ
refusal_of why place = record_of 0x01FF (word16 (number_of why) ++ word32 place)

-- the most bytes that an event writes: its actions and replies with their two headers
abbrev pub most_output : ℕ
most_output = 4 + 4 * most_actions + 4 + most_replies

-- room for what the event gives
abbrev pub Suffices : Bridge → Event → Lent → Type 0
Suffices b e l =
    (fits_in (length l.actions) l.acted (length (bytes_of (effect b e l).actions)) ≡ true) × (fits_in (length l.replies) l.replied (length (sent_by (effect b e l))) ≡ true)

-- THEOREM (proofs/Room.antt, `any_room`): a call with the same samples and any room that suffices answers as `call_of`, and writes
-- what that one gives
pub record SameCall (b : Bridge) (e : Event) (l : Lent) : Type 0 where
  pub answer : (answer_of b e l).answer ≡ (call_of b e l.samples).answer
  pub actions : (call_of b e l.samples).answer.outcome ≡ Ok tt → (answer_of b e l).actions ≡ overwrite l.actions l.acted (call_of b e l.samples).actions
  pub replies : (call_of b e l.samples).answer.outcome ≡ Ok tt → (answer_of b e l).replies ≡ overwrite l.replies l.replied (call_of b e l.samples).replies

abbrev pub AnyRoom : Type 0
AnyRoom = (b : Bridge) (e : Event) (ss as' : List ℕ) (a : ℕ) (rs : List ℕ) (r : ℕ) → Suffices b e (lent ss 0 as' a rs r) → SameCall b e (lent ss 0 as' a rs r)

-- THEOREM (proofs/Room.antt, `enough_room`): with room for the most actions and replies of an event, "3 and 4 don't arise"
abbrev pub EnoughRoom : Bridge → Event → Lent → Type 0
EnoughRoom b e l =
    InRange b.state → Sized b.state
    → l.acted + 4 * most_actions ≤ length l.actions → l.replied + most_replies ≤ length l.replies
    → Suffices b e l
