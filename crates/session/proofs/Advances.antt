-- One step and its codes: the first event of a body, the other ways of a step, and a call of `advance`. Assumes nothing.
use Prim.Native.Nat.{ℕ, ◌+◌, ◌-◌, ◌≤◌, ◌<◌}
use mathlib.Core.Path.{◌≡◌, refl, sym, ap, ◌∙◌, subst}
use mathlib.Core.Bool.{Bool, true, false, ◌||◌, true≢false}
use mathlib.Core.List.{List, [], append-nil}
use native.Mathlib.Omega.{arith}
use native.Mathlib.Nat.{add-zero}
use borrow.Author.Tests.{ltb-true, ltb-false, le-ltb, lt-leb}
use lib.Dec.{ltb}
use lib.ListN.{length, get_or}
use Rattle.registers.specs.declared.Event.{Event}
use Rattle.effects.specs.declared.Returned.TheVariants.{Nothing}
use Rattle.bridge.specs.Answering.{Given}
use Rattle.std.specs.Prelude.{Result, Ok, Err}
use Rattle.refusals.specs.declared.Refusal.{Refusal}
use Rattle.records.specs.Records.{part}
use Rattle.records.specs.declared.contents.Received.{Received}
use Rattle.records.specs.Contents.{event_of, events_of}
use Rattle.wire.proofs.Choices.{by_bool}
use Rattle.transcript.specs.Transcript.{call_of, most_output}
use Rattle.session.specs.Runs.{Cursor, Ran, lent_to, entered, stopped, Steps, event_step, first_step, step_of, then_steps, steps_of, RanSteps, left}
use Rattle.session.specs.Next.{Next, Stop, next_of, next_step, first_call, codes_at, next_codes, Advanced, Advances}
use Rattle.session.specs.declared.next.Next.TheVariants as n
use Rattle.transcript.specs.Events.{bridge_of, EventTaken, EventRefused}
use Rattle.transcript.specs.declared.events.Done.{Done}
use Rattle.session.specs.Inner.{StepDone}
use Rattle.transcript.proofs.CallTests.{call_codeless}
use Rattle.records.proofs.Parts.{part_first}
use Rattle.session.proofs.Along.{steps_first, steps_none}
use Rattle.session.proofs.Promises.{further}
use Rattle.session.proofs.Going.{going_first, runs_over, runs_full}
use Rattle.session.proofs.NextSteps.{step_next, event_lies}

-- THE FIRST EVENT of a body, with a buffer that held o
module _ (c : Cursor) (received : Received) (start end : ℕ) (body ss o : List ℕ) where
  abbrev g : Given
  g = first_call c.bridge received body ss

  abbrev First : List ℕ → Advanced → Type 0
  First x r = StepDone (event_step (entered c start end) g.answer.outcome g) g.answer.codes o x r

  pub first_refused : (why : Refusal) → g.answer.outcome ≡ Err why → {x : List ℕ} {r : Ran} → RanSteps (stopped why start) o x r → First x (record { ran = r; returned = Nothing })
  first_refused why e {x} {r} u = record {
    ran = subst (λ (t : Result (Unit {0}) Refusal). RanSteps (event_step (entered c start end) t g) o x r) (sym e) u;
    codes_as = sym (call_codeless c.bridge (event_of received (get_or body 0 0)) ss why e);
  }

  -- it is refused, and the buffer is as it was
  pub first_stops : {x : List ℕ} {why : Refusal} → EventRefused g o x why → {y : List ℕ} {r : Ran} → RanSteps (stopped why start) x y r → First y (record { ran = r; returned = Nothing })
  first_stops {x} {why} a {y} {r} u = first_refused why a.outcome (subst (λ (l : List ℕ). RanSteps (stopped why start) l y r) a.same u)

  pub first_taken : {x : List ℕ} {d : Done} → EventTaken g ss o x d
      → First x (record { ran = record { cursor = record { bridge = bridge_of d.state; at = start + 1; end = end; sample = c.sample + d.used; sampled = c.sampled; done = false }; written = d.written; steps = 1 }; returned = d.returned })
  first_taken {x} {d} a = record {
    ran = subst (λ (t : Result (Unit {0}) Refusal). RanSteps (event_step (entered c start end) t g) o x (record { cursor = record { bridge = bridge_of d.state; at = start + 1; end = end; sample = c.sample + d.used; sampled = c.sampled; done = false }; written = d.written; steps = 1 })) (sym a.outcome)
        (record { next = λ i. record { bridge = a.bridge i; at = start + 1; end = end; sample = c.sample + a.used i; sampled = c.sampled; done = false }; wrote = a.wrote; steps = refl; within = a.within });
    codes_as = a.codes;
  }

-- A STEP by what is next
module _ (s : List ℕ) (c : Cursor) (o : List ℕ) where
  pub without_event_lem : (y : Result Next Stop) → next_of s c.at c.end ≡ y → codes_at s c y ≡ [] → {x : List ℕ} {r : Ran} → RanSteps (next_step s c y) o x r
      → StepDone (step_of s c) (codes_at s c (next_of s c.at c.end)) o x (record { ran = r; returned = Nothing })
  without_event_lem y e k {x} {r} u = record {
    ran = subst (λ (t : Steps). RanSteps t o x r) (sym (step_next s c ∙ ap (next_step s c) e)) u;
    codes_as = sym (ap (codes_at s c) e ∙ k);
  }

  pub with_event : {received : Received} {start end : ℕ} → next_of s c.at c.end ≡ Ok (n.Event received start end) → {x : List ℕ} {r : Advanced} → First c received start end (part s start end) (lent_to s c) o x r
      → StepDone (step_of s c) (codes_at s c (next_of s c.at c.end)) o x r
  with_event {received} {start} {end} e {x} {r} d =
      let lies = event_lies s c.at c.end e in
      let q : step_of s c ≡ event_step (entered c start end) (first_call c.bridge received (part s start end) (lent_to s c)).answer.outcome (first_call c.bridge received (part s start end) (lent_to s c)) =
      step_next s c ∙ ap (next_step s c) e ∙ ap (λ (l : List ℕ). first_step (entered c start end) (events_of received l) (lent_to s c)) (part_first s start end lies.some lies.within) in
      record {
        ran = subst (λ (t : Steps). RanSteps t o x r.ran) (sym q) d.ran;
        codes_as = d.codes_as ∙ sym (ap (codes_at s c) e);
      }

  -- A CALL of `advance` that makes its step ..
  pub work : c.done || ltb (length o) most_output ≡ false → (c.done ≡ false) × (most_output ≤ length o)
  work = go c.done
    where
      go : (t : Bool) → t || ltb (length o) most_output ≡ false → (t ≡ false) × (most_output ≤ length o)
      go true h = absurd (true≢false h)
      go false h = (refl, ltb-false (length o) most_output h)

  single : c.done ≡ false → most_output ≤ length o → steps_of 1 s (length o) c ≡ step_of s c
  single live room =
      steps_first 0 s (length o) c live room
      ∙ ap (λ (t : Steps). then_steps (step_of s c) t) (steps_none s (length o - length (step_of s c).bytes) (step_of s c).next)
      ∙ (λ i. record { next = (step_of s c).next; bytes = append-nil (step_of s c).bytes i; steps = add-zero (step_of s c).steps i })

  pub advances : {x : List ℕ} {r : Advanced} → c.done ≡ false → most_output ≤ length o → StepDone (step_of s c) (codes_at s c (next_of s c.at c.end)) o x r → Advances s c o x r
  advances {x} {r} live room d = record {
    ran = record {
      made = subst (λ (t : Steps). RanSteps t o x r.ran) (sym (single live room)) d.ran;
      further = λ more fits work. subst (λ (e : Cursor). left s e < left s c) (ap (λ (t : Steps). t.next) (single live room) ∙ sym d.ran.next) (further 1 s (length o) c more fits work);
    };
    codes = d.codes_as ∙ sym (none_over live room);
  }
    where
      none_over : c.done ≡ false → most_output ≤ length o → next_codes s (length o) c ≡ codes_at s c (next_of s c.at c.end)
      none_over live room = rw (live, le-ltb (length o) most_output room)

  -- .. and one that makes none, since the replay is over or has no room
  pub stays : c.done || ltb (length o) most_output ≡ true → Advances s c o o (record { ran = record { cursor = c; written = 0; steps = 0 }; returned = Nothing })
  stays h = record {
    ran =
        by_bool c.done (λ t. runs_over 1 s c o (going_first 1 s c o) t)
        (λ t. runs_full 1 s c o (going_first 1 s c o) (lt-leb most_output (length o - 0) (omega (arith, ltb-true (length o) most_output (short c.done t h)))));
    codes = rw h;
  }
    where
      short : (t : Bool) → t ≡ false → t || ltb (length o) most_output ≡ true → ltb (length o) most_output ≡ true
      short true q e = absurd (true≢false q)
      short false q e = e
