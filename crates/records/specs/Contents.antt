-- What a session makes of a record's body (01, "Session file"; refusals 8 and 9): "Kinds: 1 bytes, 2 fault, 3 samples".
use Rattle.std.specs.Prelude.{ℕ, Bool, false, cond, ◌&&◌, List, map, eqb, leb, get_or, length, Result, Ok, Err}
use Rattle.registers.specs.declared.Event.{Event}
use Rattle.registers.specs.declared.Event.TheVariants as e
use Rattle.registers.specs.declared.Fault.{Fault}
use Rattle.registers.specs.declared.Fault.TheVariants as k
use Rattle.codes.specs.Codes.{frame, overrun, parity}
use Rattle.refusals.specs.declared.Refusal.{Refusal}
use Rattle.refusals.specs.declared.Refusal.TheVariants.{FaultBody}
use Rattle.records.specs.Kinds.{Kind, kind_of}
use Rattle.records.specs.declared.kinds.Kind.TheVariants as n
pub use Rattle.records.specs.declared.contents.Received.{Received}
pub use Rattle.records.specs.declared.contents.Received.TheVariants as v
pub use Rattle.records.specs.declared.contents.Content.{Content}
pub use Rattle.records.specs.declared.contents.Content.TheVariants as c

-- A FAULT'S BODY is "one byte of 81, 82, 83 hex": frame, overrun, parity
abbrev pub is_fault : ℕ → Bool
is_fault code = leb frame code && leb code parity

abbrev pub one_fault : List ℕ → Bool
one_fault body = cond (eqb (length body) 1) (is_fault (get_or body 0 0)) false

abbrev pub fault_of : ℕ → Fault
fault_of code = cond (eqb code frame) k.Frame (cond (eqb code overrun) k.Overrun k.Parity)

-- A BODY BY ITS KIND: events, received bytes or a line fault; samples; "a fault body is not one byte of 81, 82, 83 hex" is 9,
-- "unknown kind" 8
abbrev pub content_in : Result Kind Refusal → List ℕ → Result Content Refusal
content_in (Ok n.Bytes) body = Ok (c.Events v.Bytes)
content_in (Ok n.Fault) body = cond (one_fault body) (Ok (c.Events v.Fault)) (Err FaultBody)
content_in (Ok n.Samples) body = Ok c.Samples
content_in (Err why) body = Err why

abbrev pub content_of : ℕ → List ℕ → Result Content Refusal
content_of kind body = content_in (kind_of kind) body

-- THE EVENTS of a body, one a byte
abbrev pub event_of : Received → ℕ → Event
event_of v.Bytes b = e.Byte b
event_of v.Fault b = e.Fault (fault_of b)

abbrev pub events_of : Received → List ℕ → List Event
events_of received body = map (event_of received) body
