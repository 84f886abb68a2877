-- Steps along a body: as far as its events get, and then the steps after them. Assumes nothing.
use Prim.Native.Nat.{ℕ, zero, suc, ◌+◌, ◌-◌, ◌≤◌, ◌<◌}
use mathlib.Core.Path.{◌≡◌, refl, sym, ap, ◌∙◌, subst⁻¹}
use mathlib.Core.Bool.{Bool, true, false, cond, ◌||◌, true≢false}
use mathlib.Core.List.{List, [], ◌∷◌, ◌++◌, append_assoc, append-nil}
use native.Mathlib.Omega.{arith}
use native.Mathlib.Nat.{zero-add, add-zero, add_assoc, sub-zero}
use borrow.Author.Tests.{le-leb, lt-leb, lt-ltb, le-ltb, ltb-true, ltb-false}
use lib.Dec.{ltb, leb}
use lib.ListN.{length, drop, get_or, length-append}
use Rattle.registers.specs.declared.Event.{Event}
use Rattle.bridge.specs.Answering.{Given}
use Rattle.bridge.specs.declared.Bridge.{Bridge}
use Rattle.records.specs.Records.{part, record_from}
use Rattle.refusals.specs.declared.Refusal.TheVariants.{Size}
use Rattle.records.specs.Contents.{event_of, events_of, content_of}
use Rattle.records.specs.declared.reading.Body.{Body}
use Rattle.std.specs.Prelude.{Option, None, Some, Result, Ok, Err}
use Rattle.refusals.specs.declared.Refusal.{Refusal}
use Rattle.records.specs.declared.contents.Received.{Received}
use Rattle.records.specs.declared.contents.Received.TheVariants as line
use Rattle.records.specs.declared.contents.Content.{Content}
use Rattle.records.specs.declared.contents.Content.TheVariants as k
use Rattle.wire.proofs.Choices.{by_cond, by_bool}
use Rattle.transcript.specs.Transcript.{call_of, output_of, refusal_of, most_output}
use Rattle.session.specs.Runs.{Cursor, lent_to, Steps, finished, stopped, entered, past_event, event_step, first_step, body_step, record_step, step_of, stay, then_steps, steps_of}
use Rattle.transcript.specs.Events.{Progress, halt, onward, progress_of}
use Rattle.session.specs.Inner.{Entering}
use Rattle.transcript.proofs.CallTests.{not_refused_lem, call_few}
use Rattle.records.proofs.Parts.{part_none, part_first, no_fault, lent_rest}
use Rattle.transcript.proofs.Progress.{progress_step, progress_short}

-- STEPS, by their tests

pub steps_over : (n : ℕ) (s : List ℕ) (room : ℕ) (c : Cursor) → c.done ≡ true → steps_of n s room c ≡ stay c
unfolding steps_of
steps_over zero s room c h = refl
steps_over (suc n) s room c h = rw h

pub steps_short : (n : ℕ) (s : List ℕ) (room : ℕ) (c : Cursor) → room < most_output → steps_of n s room c ≡ stay c
unfolding steps_of
steps_short zero s room c h = refl
steps_short (suc n) s room c h = by_bool c.done (λ t. rw t) (λ t. rw (t, lt-ltb room most_output h))

pub steps_none : (s : List ℕ) (room : ℕ) (c : Cursor) → steps_of 0 s room c ≡ stay c
unfolding steps_of
steps_none s room c = refl

pub steps_first : (n : ℕ) (s : List ℕ) (room : ℕ) (c : Cursor) → c.done ≡ false → most_output ≤ room
    → steps_of (suc n) s room c ≡ then_steps (step_of s c) (steps_of n s (room - length (step_of s c).bytes) (step_of s c).next)
unfolding steps_of
steps_first n s room c live h =
    ap (λ (t : Bool). cond t (stay c) (then_steps (step_of s c) (steps_of n s (room - length (step_of s c).bytes) (step_of s c).next)))
    ((λ k. live k || ltb room most_output) ∙ le-ltb room most_output h)

pub too_long : (s : List ℕ) (c : Cursor) → 32768 < length s → step_of s c ≡ stopped Size 0
unfolding step_of
too_long s c h = rw (lt-leb (length s) 32768 h)

pub step_as : (s : List ℕ) (c : Cursor) {x : Result (Option Body) Refusal} → length s ≤ 32768 → record_from s c.at c.end ≡ x → step_of s c ≡ record_step s c x
unfolding step_of
step_as s c h e = rw (le-leb (length s) 32768 h, e)

outcome_one : (c : Cursor) (t : Result (Unit {0}) Refusal) (g : Given) → (event_step c t g).steps ≡ 1
outcome_one c (Ok tt) g = refl
outcome_one c (Err why) g = refl

events_one : (c : Cursor) (es : List Event) (ss : List ℕ) → (first_step c es ss).steps ≡ 1
events_one c [] ss = refl
events_one c (e ∷ es) ss = outcome_one c (call_of c.bridge e ss).answer.outcome (call_of c.bridge e ss)

body_one : (s : List ℕ) (c : Cursor) (start end : ℕ) (x : Result Content Refusal) → (body_step s c start end x).steps ≡ 1
body_one s c start end (Ok (k.Events received)) = events_one (entered c start end) (events_of received (part s start end)) (lent_to s c)
body_one s c start end (Ok k.Samples) = refl
body_one s c start end (Err why) = refl

record_one : (s : List ℕ) (c : Cursor) (x : Result (Option Body) Refusal) → (record_step s c x).steps ≡ 1
record_one s c (Ok (Some x)) = body_one s c x.start x.end (content_of x.kind (part s x.start x.end))
record_one s c (Ok None) = refl
record_one s c (Err why) = refl

pub one_step_lem : (s : List ℕ) (c : Cursor) → (step_of s c).steps ≡ 1
unfolding step_of
one_step_lem s c = by_cond (λ (t : Steps). t.steps ≡ 1) (leb (length s) 32768) (λ _. record_one s c (record_from s c.at c.end)) (λ _. refl)

-- A BODY'S EVENTS from a cursor at their place, as far as they get, and the steps after them
abbrev pub gone : Cursor → Progress → Cursor
gone c p = record { bridge = p.bridge; at = c.at + p.read; end = c.end; sample = c.sample + p.used; sampled = c.sampled; done = false }

abbrev pub gone_on : ℕ → List ℕ → ℕ → Cursor → Result (Unit {0}) Refusal → Progress → Steps
gone_on n s room c (Ok tt) p = then_steps (record { next = gone c p; bytes = p.bytes; steps = p.read }) (steps_of (n - p.read) s (room - length p.bytes) (gone c p))
gone_on n s room c (Err why) p = record { next = finished; bytes = p.bytes ++ refusal_of why (c.at + p.read); steps = p.read + 1 }

onward_some : (t : Result (Unit {0}) Refusal) (b : Bridge) (g : Given) (p : Progress) → (onward t b g p).outcome ≡ Ok tt → 0 < (onward t b g p).read
onward_some (Ok tt) b g p e = omega arith
onward_some (Err why) b g p e = absurd (not_refused_lem why (sym e))

module _ (s : List ℕ) (h : length s ≤ 32768) where
  -- where no event is taken, all steps are still to make
  none : (n room : ℕ) (c : Cursor) → c.done ≡ false → gone_on n s room c (Ok tt) (halt c.bridge (Ok tt)) ≡ steps_of n s room c
  none n room c live =
      let u : gone c (halt c.bridge (Ok tt)) ≡ c = λ k. record { bridge = c.bridge; at = add-zero c.at k; end = c.end; sample = add-zero c.sample k; sampled = c.sampled; done = sym live k } in
      let r : steps_of (n - 0) s (room - 0) (gone c (halt c.bridge (Ok tt))) ≡ steps_of n s room c = λ k. steps_of (sub-zero n k) s (sub-zero room k) (u k) in
      λ k. record { next = (r k).next; bytes = (r k).bytes; steps = zero-add (r k).steps k }

  -- one event of a body, and then the rest of it
  module _ (c : Cursor) (received : Received) (start end : ℕ) (i : start < end) (j : end ≤ length s) where
    abbrev e : Event
    e = event_of received (get_or (part s start end) 0 0)

    abbrev g : Given
    g = call_of c.bridge e (lent_to s c)

    abbrev d : Cursor
    d = past_event (entered c start end) g.answer

    joined : (n room : ℕ) (t : Result (Unit {0}) Refusal) (p : Progress)
        → then_steps (record { next = d; bytes = output_of g; steps = 1 }) (gone_on n s (room - length (output_of g)) d t p)
        ≡ gone_on (suc n) s room (entered c start end) t (onward (Ok tt) c.bridge g p)
    joined n room (Ok tt) p =
        let at : start + 1 + p.read ≡ start + (1 + p.read) = omega arith in
        let sample : c.sample + g.answer.samples + p.used ≡ c.sample + (g.answer.samples + p.used) = omega arith in
        let m : n - p.read ≡ suc n - (1 + p.read) = omega arith in
        let v : room - length (output_of g) - length p.bytes ≡ room - length (output_of g ++ p.bytes) = omega (arith, length-append (output_of g) p.bytes) in
        let u : gone d p ≡ gone (entered c start end) (onward (Ok tt) c.bridge g p) = λ k. record { bridge = p.bridge; at = at k; end = end; sample = sample k; sampled = c.sampled; done = false } in
        let r : steps_of (n - p.read) s (room - length (output_of g) - length p.bytes) (gone d p) ≡ steps_of (suc n - (1 + p.read)) s (room - length (output_of g ++ p.bytes)) (gone (entered c start end) (onward (Ok tt) c.bridge g p)) = λ k. steps_of (m k) s (v k) (u k) in
        λ k. record {
          next = (r k).next;
          bytes = sym (append_assoc (output_of g) p.bytes (r k).bytes) k;
          steps = sym (add_assoc 1 p.read (r k).steps) k;
        }
    joined n room (Err why) p =
        let at : start + 1 + p.read ≡ start + (1 + p.read) = omega arith in
        let m : 1 + (p.read + 1) ≡ 1 + p.read + 1 = omega arith in
        λ k. record {
          next = finished;
          bytes = sym (append_assoc (output_of g) p.bytes (refusal_of why (at k))) k;
          steps = m k;
        }

    abbrev more : ℕ → ℕ → Progress
    more n room = progress_of n (room - length (output_of g)) (events_of received (part s (start + 1) end)) g.answer.bridge (drop g.answer.samples (lent_to s c))

    -- by its outcome; it is given that the steps from the next cursor go along the rest of the body
    event_along : (n room : ℕ) (t : Result (Unit {0}) Refusal)
        → steps_of n s (room - length (output_of g)) d ≡ gone_on n s (room - length (output_of g)) d (more n room).outcome (more n room)
        → then_steps (event_step (entered c start end) t g) (steps_of n s (room - length (event_step (entered c start end) t g).bytes) (event_step (entered c start end) t g).next)
        ≡ gone_on (suc n) s room (entered c start end) (onward t c.bridge g (more n room)).outcome (onward t c.bridge g (more n room))
    event_along n room (Ok tt) q = ap (λ (u : Steps). then_steps (record { next = d; bytes = output_of g; steps = 1 }) u) q ∙ joined n room (more n room).outcome (more n room)
    event_along n room (Err why) q =
        let bs = refusal_of why start in
        ap (λ (u : Steps). then_steps (record { next = finished; bytes = bs; steps = 1 }) u) (steps_over n s (room - length bs) finished refl)
        ∙ (λ k. record { next = finished; bytes = (append-nil bs ∙ ap (λ (v : ℕ). refusal_of why v) (sym (add-zero start))) k; steps = 1 })

  -- ALONG A BODY of bytes, from a cursor in it or at its end
  abbrev Along : ℕ → Type 0
  Along n = (room : ℕ) (c : Cursor) → c.done ≡ false → c.at ≤ c.end → c.end ≤ length s
      → steps_of n s room c ≡ gone_on n s room c (progress_of n room (events_of line.Bytes (part s c.at c.end)) c.bridge (lent_to s c)).outcome (progress_of n room (events_of line.Bytes (part s c.at c.end)) c.bridge (lent_to s c))

  -- .. and from a cursor that enters one
  module _ (n : ℕ) (ih : Along n) (room : ℕ) (c : Cursor) (received : Received) (start end : ℕ) (live : c.done ≡ false) (r : most_output ≤ room) (u : Entering s c received start end) where
    abbrev e' : Event
    e' = e c received start end u.some u.within

    abbrev x : Given
    x = g c received start end u.some u.within

    abbrev d' : Cursor
    d' = d c received start end u.some u.within

    abbrev p : Progress
    p = more c received start end u.some u.within n room

    rest : steps_of n s (room - length (output_of x)) d' ≡ gone_on n s (room - length (output_of x)) d' p.outcome p
    rest =
        ih (room - length (output_of x)) d' refl (omega (arith, u.some)) u.within
        ∙ ap (λ (q : Progress). gone_on n s (room - length (output_of x)) d' q.outcome q)
        (λ k. progress_of n (room - length (output_of x)) (sym (no_fault received (part s (start + 1) end) (λ t. part_none s (start + 1) end (omega (arith, u.single t)))) k) x.answer.bridge (lent_rest s c.sample c.sampled x.answer.samples (call_few c.bridge e' (lent_to s c)) k))

    first : step_of s c ≡ event_step (entered c start end) x.answer.outcome x
    first = u.first ∙ ap (λ (l : List ℕ). first_step (entered c start end) (events_of received l) (lent_to s c)) (part_first s start end u.some u.within)

    whole : progress_of (suc n) room (events_of received (part s start end)) c.bridge (lent_to s c) ≡ onward x.answer.outcome c.bridge x p
    whole =
        ap (λ (l : List ℕ). progress_of (suc n) room (events_of received l) c.bridge (lent_to s c)) (part_first s start end u.some u.within)
        ∙ progress_step n room e' (events_of received (part s (start + 1) end)) c.bridge (lent_to s c) r

    -- .. with an event at least, unless it is refused
    pub some : (progress_of (suc n) room (events_of received (part s start end)) c.bridge (lent_to s c)).outcome ≡ Ok tt → 0 < (progress_of (suc n) room (events_of received (part s start end)) c.bridge (lent_to s c)).read
    some = subst⁻¹ (λ (q : Progress). q.outcome ≡ Ok tt → 0 < q.read) whole (onward_some x.answer.outcome c.bridge x p)

    pub enters : steps_of (suc n) s room c
        ≡ gone_on (suc n) s room (entered c start end) (progress_of (suc n) room (events_of received (part s start end)) c.bridge (lent_to s c)).outcome (progress_of (suc n) room (events_of received (part s start end)) c.bridge (lent_to s c))
    enters =
        steps_first n s room c live r
        ∙ ap (λ (t : Steps). then_steps t (steps_of n s (room - length t.bytes) t.next)) first
        ∙ event_along c received start end u.some u.within n room x.answer.outcome rest
        ∙ ap (λ (q : Progress). gone_on (suc n) s room (entered c start end) q.outcome q) (sym whole)

  entering : (c : Cursor) → c.at < c.end → c.end ≤ length s → Entering s c line.Bytes c.at c.end
  unfolding step_of record_from
  entering c i j = record {
    first = rw (le-leb (length s) 32768 h, lt-ltb c.at c.end i, le-leb c.end (length s) j);
    some = i;
    within = j;
    single = λ q. cc;
  }

  pub along : (n : ℕ) → Along n
  along zero room c live i j = sym (none 0 room c live)
  along (suc n) room c live i j =
      by_bool (ltb c.at c.end)
      (λ t. by_bool (ltb room most_output) (λ v. none_by (progress_short (suc n) room (events_of line.Bytes (part s c.at c.end)) c.bridge (lent_to s c) (ltb-true room most_output v)))
      (λ v. enters n (along n) room c line.Bytes c.at c.end live (ltb-false room most_output v) (entering c (ltb-true c.at c.end t) j)
      ∙ ap (λ (d : Cursor). gone_on (suc n) s room d (progress_of (suc n) room (events_of line.Bytes (part s c.at c.end)) c.bridge (lent_to s c)).outcome (progress_of (suc n) room (events_of line.Bytes (part s c.at c.end)) c.bridge (lent_to s c))) (λ k. record { bridge = c.bridge; at = c.at; end = c.end; sample = c.sample; sampled = c.sampled; done = sym live k })))
      (λ t. none_by (ap (λ (l : List ℕ). progress_of (suc n) room (events_of line.Bytes l) c.bridge (lent_to s c)) (part_none s c.at c.end (ltb-false c.at c.end t))))
    where
      none_by : progress_of (suc n) room (events_of line.Bytes (part s c.at c.end)) c.bridge (lent_to s c) ≡ halt c.bridge (Ok tt)
          → steps_of (suc n) s room c ≡ gone_on (suc n) s room c (progress_of (suc n) room (events_of line.Bytes (part s c.at c.end)) c.bridge (lent_to s c)).outcome (progress_of (suc n) room (events_of line.Bytes (part s c.at c.end)) c.bridge (lent_to s c))
      none_by e = sym (ap (λ (q : Progress). gone_on (suc n) s room c q.outcome q) e ∙ none (suc n) room c live)
