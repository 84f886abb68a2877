-- For the contracts of the functions that take an event and that take one after another; 01 does not speak of them.
use Rattle.std.specs.Prelude.{ℕ, zero, suc, ◌+◌, ◌-◌, ◌≤◌, ◌≡◌, cond, List, [], ◌∷◌, ◌++◌, eqb, ltb, length, drop, Result, Ok, Err, MatchResult}
use Rattle.wire.specs.Buffer.{overwrite, Written}
use Rattle.registers.specs.Ranges.{InRange}
use Rattle.registers.specs.declared.Event.{Event}
use Rattle.registers.specs.declared.State.{State}
use Rattle.effects.specs.Returning.{codes_in}
use Rattle.bridge.specs.Answering.{Given}
use Rattle.bridge.specs.declared.Bridge.{Bridge}
use Rattle.refusals.specs.declared.Refusal.{Refusal}
use Rattle.records.specs.Records.{head_of}
use Rattle.transcript.specs.Transcript.{call_of, output_of, most_output}
pub use Rattle.transcript.specs.declared.events.Done.{Done}
pub use Rattle.transcript.specs.declared.events.Reach.{Reach}

abbrev pub bridge_of : State → Bridge
bridge_of s = record { state = s }

-- a header of a kind is in front of so many bytes that stand there, none if there are none
pub record Headed (o : List ℕ) (kind size : ℕ) (x : List ℕ) (next : ℕ) : Type 0 where
  pub bytes : x ≡ cond (eqb size 0) o (overwrite o 0 (head_of kind size))
  pub after : next ≡ cond (eqb size 0) 0 (4 + size)

-- AN EVENT that is taken, with samples ss: what its call gives, its records at the front of a buffer that held o and then holds x
pub record EventTaken (g : Given) (ss o x : List ℕ) (d : Done) : Type 0 where
  pub outcome : g.answer.outcome ≡ Ok tt
  pub bridge : bridge_of d.state ≡ g.answer.bridge
  pub used : d.used ≡ g.answer.samples
  pub codes : codes_in d.returned ≡ g.answer.codes
  pub wrote : Written o 0 (output_of g) x d.written
  pub ranged : InRange d.state
  pub within : d.written ≤ length o
  pub few : d.used ≤ length ss

-- .. and one that is refused, which leaves the buffer as it was
pub record EventRefused (g : Given) (o x : List ℕ) (why : Refusal) : Type 0 where
  pub outcome : g.answer.outcome ≡ Err why
  pub same : x ≡ o

abbrev pub EventDone : Given → List ℕ → List ℕ → List ℕ → Result Done Refusal → Type 0
EventDone g ss o x r = MatchResult r (EventTaken g ss o x) (EventRefused g o x)

-- EVENTS one after another, at most so many, while there is room for any event's output: the bridge then, the events and samples
-- read, the bytes written, and whether the next event was refused
pub record Progress : Type 0 where
  pub bridge : Bridge
  pub read : ℕ
  pub used : ℕ
  pub bytes : List ℕ
  pub outcome : Result (Unit {0}) Refusal

abbrev pub halt : Bridge → Result (Unit {0}) Refusal → Progress
halt b t = record { bridge = b; read = 0; used = 0; bytes = []; outcome = t }

abbrev pub onward : Result (Unit {0}) Refusal → Bridge → Given → Progress → Progress
onward (Ok v) b g p = record { bridge = p.bridge; read = 1 + p.read; used = g.answer.samples + p.used; bytes = output_of g ++ p.bytes; outcome = p.outcome }
onward (Err why) b g p = halt b (Err why)

abbrev pub progress_of : ℕ → ℕ → List Event → Bridge → List ℕ → Progress
progress_of zero room es b ss = halt b (Ok tt)
progress_of (suc n) room [] b ss = halt b (Ok tt)
progress_of (suc n) room (e ∷ es) b ss =
    let g = call_of b e ss in
    cond (ltb room most_output) (halt b (Ok tt)) (onward g.answer.outcome b g (progress_of n (room - length (output_of g)) es g.answer.bridge (drop g.answer.samples ss)))

-- .. as a buffer that held o and then holds x has them
pub record Reached (p : Progress) (es : List Event) (ss o x : List ℕ) (r : Reach) : Type 0 where
  pub outcome : r.outcome ≡ p.outcome
  pub state : p.outcome ≡ Ok tt → bridge_of r.state ≡ p.bridge
  pub read : r.read ≡ p.read
  pub used : r.used ≡ p.used
  pub wrote : Written o 0 p.bytes x r.written
  pub few : r.read ≤ length es
  pub lent : r.used ≤ length ss
  pub within : r.written ≤ length o
  pub same : length x ≡ length o
  -- a refusal's record has room
  pub room : (why : Refusal) → r.outcome ≡ Err why → r.written + 10 ≤ length o
