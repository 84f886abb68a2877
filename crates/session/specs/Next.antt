-- The next step of a replay: what it is about, and the codes that its event returns. Steps are the code's, as in Runs.antt.
use Rattle.std.specs.Prelude.{ℕ, ◌≡◌, cond, ◌||◌, List, [], eqb, leb, ltb, length, get_or, Option, None, Some, Result, Ok, Err}
use Rattle.effects.specs.Returning.{codes_in}
use Rattle.bridge.specs.Answering.{Given}
use Rattle.bridge.specs.declared.Bridge.{Bridge}
use Rattle.refusals.specs.declared.Refusal.{Refusal}
use Rattle.refusals.specs.declared.Refusal.TheVariants.{Size}
use Rattle.records.specs.Records.{part, record_from}
use Rattle.records.specs.declared.reading.Body.{Body}
use Rattle.records.specs.declared.contents.Content.{Content}
use Rattle.records.specs.declared.contents.Content.TheVariants as k
use Rattle.records.specs.declared.contents.Received.{Received}
use Rattle.records.specs.Contents.{content_of, event_of, events_of}
use Rattle.transcript.specs.Transcript.{call_of, last_of, most_output}
use Rattle.session.specs.Runs.{Cursor, lent_to, finished, entered, replaced, Steps, one_step, stopped, first_step, Runs}
pub use Rattle.session.specs.declared.next.Next.{Next}
pub use Rattle.session.specs.declared.next.Next.TheVariants as n
pub use Rattle.session.specs.declared.next.Stop.{Stop}
pub use Rattle.session.specs.declared.replay.Advanced.{Advanced}

-- A BODY by its content, a RECORD, and what is next in a session where a replay stands at a place, in a body up to an end or past it
abbrev pub next_body : ℕ → ℕ → Result Content Refusal → Result Next Refusal
next_body start end (Ok (k.Events received)) = cond (eqb start end) (Ok (n.Empty start end)) (Ok (n.Event received start end))
next_body start end (Ok k.Samples) = Ok (n.Samples start end)
next_body start end (Err why) = Err why

abbrev pub next_record : List ℕ → Result (Option Body) Refusal → Result Next Refusal
next_record s (Ok (Some x)) = next_body x.start x.end (content_of x.kind (part s x.start x.end))
next_record s (Ok None) = Ok n.End
next_record s (Err why) = Err why

-- .. a refusal with its place
abbrev pub refused_at : ℕ → Result Next Refusal → Result Next Stop
refused_at place (Ok next) = Ok next
refused_at place (Err why) = Err (record { why = why; place = place })

unfoldable pub next_of : List ℕ → ℕ → ℕ → Result Next Stop
next_of s at end = cond (leb (length s) 32768) (refused_at at (next_record s (record_from s at end))) (Err (record { why = Size; place = 0 }))

-- THE STEP that it makes: `step_of` of Runs.antt (THEOREM, proofs/NextSteps.antt, `step_next`)
abbrev pub next_step : List ℕ → Cursor → Result Next Stop → Steps
next_step s c (Ok (n.Event received start end)) = first_step (entered c start end) (events_of received (part s start end)) (lent_to s c)
next_step s c (Ok (n.Empty start end)) = one_step (entered c start end) []
next_step s c (Ok (n.Samples start end)) = one_step (replaced c start end) []
next_step s c (Ok n.End) = one_step finished (last_of c.bridge.state.wait)
next_step s c (Err x) = stopped x.why x.place

-- THE CODES of its event, as the history's call for it answers them; a refused call and a step without an event have none
abbrev pub first_call : Bridge → Received → List ℕ → List ℕ → Given
first_call b received body ss = call_of b (event_of received (get_or body 0 0)) ss

abbrev pub codes_at : List ℕ → Cursor → Result Next Stop → List ℕ
codes_at s c (Ok (n.Event received start end)) = (first_call c.bridge received (part s start end) (lent_to s c)).answer.codes
codes_at s c (Ok (n.Empty start end)) = []
codes_at s c (Ok (n.Samples start end)) = []
codes_at s c (Ok n.End) = []
codes_at s c (Err x) = []

abbrev pub next_codes : List ℕ → ℕ → Cursor → List ℕ
next_codes s room c = cond (c.done || ltb room most_output) [] (codes_at s c (next_of s c.at c.end))

-- A CALL of `advance` on a session s from a cursor c, with a lent buffer that held o and then holds x
pub record Advances (s : List ℕ) (c : Cursor) (o x : List ℕ) (r : Advanced) : Type 0 where
  pub ran : Runs 1 s c o x r.ran
  pub codes : codes_in r.returned ≡ next_codes s (length o) c
