-- The loop over a body's events, over plain variables: what holds at its head, from its start through an event to its ends.
-- Assumes nothing.
use Prim.Native.Nat.{ℕ, suc, ◌+◌, ◌-◌, ◌≤◌, ◌<◌}
use mathlib.Core.Path.{◌≡◌, refl, sym, ap, ◌∙◌, subst}
use mathlib.Core.Bool.{Bool, true, false, ◌&&◌, true≢false}
use mathlib.Core.List.{List, [], ◌∷◌, ◌++◌, append_assoc, append-nil}
use native.Mathlib.Omega.{arith}
use native.Mathlib.Nat.{zero-add, add-zero, add_assoc, sub-zero}
use borrow.Author.Tests.{ltb-true, ltb-false, leb-true, leb-false}
use lib.Dec.{leb, ltb}
use lib.ListN.{length, take, drop, get_or, take-append-drop, length-take, length-drop}
use lib.Seq.{drop-drop}
use Rattle.wire.specs.Buffer.{Written}
use Rattle.wire.proofs.Buffers.{overwrite_length, written_none, written_append, written_after}
use Rattle.registers.specs.Ranges.{state_fits, InRange}
use Rattle.codes.proofs.Both.{both_left, both_right}
use Rattle.registers.specs.declared.Event.{Event}
use Rattle.registers.specs.declared.State.{State}
use Rattle.bridge.specs.Answering.{Given}
use Rattle.bridge.specs.declared.Bridge.{Bridge}
use Rattle.refusals.specs.declared.Refusal.{Refusal}
use Rattle.refusals.specs.declared.Refusal.TheVariants.{Ranges}
use Rattle.std.specs.Prelude.{Result, Ok, Err}
use Rattle.records.specs.declared.contents.Received.{Received}
use Rattle.records.specs.Contents.{event_of, events_of}
use Rattle.transcript.specs.Transcript.{call_of, output_of, most_output}
use Rattle.transcript.specs.Events.{bridge_of, EventTaken, EventRefused, Progress, halt, onward, progress_of, Reached, Done}
use Rattle.transcript.proofs.CallTests.{not_refused_lem, call_ranges}
use Rattle.transcript.proofs.Progress.{progress_step, progress_short}
use Rattle.records.proofs.Parts.{tail_as, events_cons, events_length}

-- what follows after so many bytes, events and samples
abbrev past : List ℕ → ℕ → ℕ → Progress → Progress
past bs i u p = record { bridge = p.bridge; read = i + p.read; used = u + p.used; bytes = bs ++ p.bytes; outcome = p.outcome }

past_none : (p : Progress) → p ≡ past [] 0 0 p
past_none p k = record { bridge = p.bridge; read = sym (zero-add p.read) k; used = sym (zero-add p.used) k; bytes = p.bytes; outcome = p.outcome }

past_onward : (bs : List ℕ) (i u : ℕ) (b : Bridge) (g : Given) (p : Progress) → past bs i u (onward (Ok tt) b g p) ≡ past (bs ++ output_of g) (i + 1) (u + g.answer.samples) p
past_onward bs i u b g p k = record {
  bridge = p.bridge;
  read = sym (add_assoc i 1 p.read) k;
  used = sym (add_assoc u g.answer.samples p.used) k;
  bytes = sym (append_assoc bs (output_of g) p.bytes) k;
  outcome = p.outcome;
}

-- at the loop's head: t is the state, i of at most n events are read, u samples used and w bytes written; the buffer was o and is x
pub record Reaching (n : ℕ) (s : State) (es : List Event) (ss o x : List ℕ) (t : State) (i u w : ℕ) : Type 0 where
  pub bytes : List ℕ
  pub wrote : Written o 0 bytes x w
  pub others : progress_of n (length o) es (bridge_of s) ss ≡ past bytes i u (progress_of (n - i) (length o - w) (drop i es) (bridge_of t) (drop u ss))
  pub few : i ≤ length es
  pub lent : u ≤ length ss
  pub within : w ≤ length o
  pub ranged : 0 < length es → InRange t

pub same : {n : ℕ} {s : State} {es : List Event} {ss o x : List ℕ} {t : State} {i u w : ℕ} → Reaching n s es ss o x t i u w → length x ≡ length o
same {o = o} g = ap length g.wrote.bytes ∙ overwrite_length o 0 g.bytes

module _ (n : ℕ) (s : State) (es : List Event) (ss o : List ℕ) where
  abbrev all : Progress
  all = progress_of n (length o) es (bridge_of s) ss

  pub reaching_first : (0 < length es → InRange s) → Reaching n s es ss o o s 0 0 0
  reaching_first r = record {
    bytes = [];
    wrote = written_none o 0;
    others = past_none all ∙ ap (past [] 0 0) (λ k. progress_of (sym (sub-zero n) k) (sym (sub-zero (length o)) k) es (bridge_of s) ss);
    few = omega arith;
    lent = omega arith;
    within = omega arith;
    ranged = r;
  }

  module _ {x : List ℕ} {t : State} {i u w : ℕ} (g : Reaching n s es ss o x t i u w) where
    -- it halts here, with the buffer as it is
    halted : (v : Result (Unit {0}) Refusal) → all ≡ past g.bytes i u (halt (bridge_of t) v) → (x' : List ℕ) → x' ≡ x → ((why : Refusal) → v ≡ Err why → w + 10 ≤ length o)
        → Reached all es ss o x' (record { state = t; read = i; used = u; written = w; outcome = v })
    halted v e x' m room = record {
      outcome = sym (ap (λ (p : Progress). p.outcome) e);
      state = λ _. sym (ap (λ (p : Progress). p.bridge) e);
      read = sym (ap (λ (p : Progress). p.read) e ∙ add-zero i);
      used = sym (ap (λ (p : Progress). p.used) e ∙ add-zero u);
      wrote = subst (λ (l : List ℕ). Written o 0 l x' w) (sym (ap (λ (p : Progress). p.bytes) e ∙ append-nil g.bytes)) (record { bytes = m ∙ g.wrote.bytes; after = g.wrote.after });
      few = g.few;
      lent = g.lent;
      within = g.within;
      same = ap length m ∙ same g;
      room = room;
    }

    -- one event more, with the samples from u on and the part of the buffer from w on, which comes back as y
    module _ (e : Event) (q : drop i es ≡ e ∷ drop (i + 1) es) (h : i < n) (roomy : most_output ≤ length x - w) (y : List ℕ) where
      abbrev c : Given
      c = call_of (bridge_of t) e (drop u ss)

      abbrev x' : List ℕ
      x' = take w x ++ (y ++ drop (length x - w) (drop w x))

      abbrev rest : Progress
      rest = progress_of (n - (i + 1)) (length o - w - length (output_of c)) (drop (i + 1) es) c.answer.bridge (drop c.answer.samples (drop u ss))

      ahead : (v : Result (Unit {0}) Refusal) → c.answer.outcome ≡ v → all ≡ past g.bytes i u (onward v (bridge_of t) c rest)
      ahead v k =
          let m : n - i ≡ suc (n - (i + 1)) = omega arith in
          g.others
          ∙ ap (past g.bytes i u)
          ((λ k. progress_of (m k) (length o - w) (q k) (bridge_of t) (drop u ss))
          ∙ progress_step (n - (i + 1)) (length o - w) e (drop (i + 1) es) (bridge_of t) (drop u ss) (omega (arith, roomy, same g))
          ∙ ap (λ (v : Result (Unit {0}) Refusal). onward v (bridge_of t) c rest) k)

      -- it is taken
      module _ (d : Done) (a : EventTaken c (drop u ss) (take (length x - w) (drop w x)) y d) where
        pub room_used : u + d.used ≤ length ss
        room_used = omega (arith, simp length-drop at a.few, g.lent)

        pub room_written : w + d.written ≤ length o
        room_written = omega (arith, simp (length-take, length-drop) at a.within, g.within, same g)

        pub reaching_step : i + 1 ≤ length es → Reaching n s es ss o x' d.state (i + 1) (u + d.used) (w + d.written)
        reaching_step l =
            let m : d.written ≡ length (output_of c) = a.wrote.after ∙ zero-add (length (output_of c)) in
            record {
              bytes = g.bytes ++ output_of c;
              wrote = written_append o 0 g.bytes (output_of c) g.wrote (record { bytes = written_after x w a.wrote refl; after = ap (λ (v : ℕ). w + v) m });
              others = ahead (Ok tt) a.outcome ∙ past_onward g.bytes i u (bridge_of t) c rest ∙ moved m;
              few = l;
              lent = room_used;
              within = room_written;
              ranged = λ _. a.ranged;
            }
          where
            moved : d.written ≡ length (output_of c)
                → past (g.bytes ++ output_of c) (i + 1) (u + c.answer.samples) rest
                ≡ past (g.bytes ++ output_of c) (i + 1) (u + d.used) (progress_of (n - (i + 1)) (length o - (w + d.written)) (drop (i + 1) es) (bridge_of d.state) (drop (u + d.used) ss))
            moved m =
                let v : length o - (w + length (output_of c)) ≡ length o - w - length (output_of c) = omega arith in
                rw (m, a.bridge, a.used, v, ← drop-drop c.answer.samples u ss)

      -- it is refused, and the buffer is as it was
      module _ (why : Refusal) (a : EventRefused c (take (length x - w) (drop w x)) y why) where
        kept : x' ≡ x
        kept =
            ap (λ (l : List ℕ). take w x ++ (l ++ drop (length x - w) (drop w x))) a.same ∙ ap (λ (l : List ℕ). take w x ++ l) (take-append-drop (length x - w) (drop w x)) ∙ take-append-drop w x

        pub refused_same : length x' ≡ length o
        refused_same = ap length kept ∙ same g

        pub reached_refused : Reached all es ss o x' (record { state = t; read = i; used = u; written = w; outcome = Err why })
        reached_refused = halted (Err why) (ahead (Err why) a.outcome) x' kept (λ _ _. omega (arith, roomy, same g))

    -- there is no room for one more, or all events are read
    pub reached_short : length x - w < most_output → Reached all es ss o x (record { state = t; read = i; used = u; written = w; outcome = Ok tt })
    reached_short h =
        halted (Ok tt) (g.others ∙ ap (past g.bytes i u) (progress_short (n - i) (length o - w) (drop i es) (bridge_of t) (drop u ss) (omega (arith, same g)))) x refl (λ why v. absurd (not_refused_lem why v))

    pub reached_end : n ≤ i → Reached all es ss o x (record { state = t; read = i; used = u; written = w; outcome = Ok tt })
    reached_end h =
        let z : n - i ≡ 0 = omega arith in
        halted (Ok tt) (g.others ∙ ap (past g.bytes i u) (ap (λ (v : ℕ). progress_of v (length o - w) (drop i es) (bridge_of t) (drop u ss)) z)) x refl (λ why v. absurd (not_refused_lem why v))

-- OF A BODY

module _ (n : ℕ) (s : State) (received : Received) (body ss o : List ℕ) where
  es_as : length (events_of received body) ≡ length body
  es_as = events_length received body

  pub body_first : (0 < length body → InRange s) → Reaching n s (events_of received body) ss o o s 0 0 0
  body_first r = reaching_first n s (events_of received body) ss o (λ h. r (omega (arith, es_as)))

  -- the state breaks a range: the first event is refused
  pub body_ranges : 0 < n → 0 < length body → state_fits s ≡ false → most_output ≤ length o
      → Reached (progress_of n (length o) (events_of received body) (bridge_of s) ss) (events_of received body) ss o o (record { state = s; read = 0; used = 0; written = 0; outcome = Err Ranges })
  body_ranges h l r room = record {
    outcome = sym (ap (λ (p : Progress). p.outcome) first);
    state = λ k. absurd (not_refused_lem Ranges (sym k ∙ ap (λ (p : Progress). p.outcome) first));
    read = sym (ap (λ (p : Progress). p.read) first);
    used = sym (ap (λ (p : Progress). p.used) first);
    wrote = subst (λ (bs : List ℕ). Written o 0 bs o 0) (sym (ap (λ (p : Progress). p.bytes) first)) (written_none o 0);
    few = omega arith;
    lent = omega arith;
    within = omega arith;
    same = refl;
    room = λ _ _. omega arith;
  }
    where
      first : progress_of n (length o) (events_of received body) (bridge_of s) ss ≡ halt (bridge_of s) (Err Ranges)
      first =
          let e = event_of received (get_or body 0 0) in
          let c = call_of (bridge_of s) e ss in
          let m : n ≡ suc (n - 1) = omega arith in
          (λ k. progress_of (m k) (length o) (events_cons received body 0 l k) (bridge_of s) ss)
          ∙ progress_step (n - 1) (length o) e (drop 1 (events_of received body)) (bridge_of s) ss room
          ∙ ap (λ (v : Result (Unit {0}) Refusal). onward v (bridge_of s) c (progress_of (n - 1) (length o - length (output_of c)) (drop 1 (events_of received body)) c.answer.bridge (drop c.answer.samples ss))) (ap (λ (g : Given). g.answer.outcome) (call_ranges (bridge_of s) e ss r))

  module _ {x : List ℕ} {t : State} {i u w : ℕ} (g : Reaching n s (events_of received body) ss o x t i u w) (few : n ≤ length body) (more : i < n) where
    within : i < length body
    within = omega arith

    pub in_range : InRange t
    in_range = g.ranged (omega (arith, es_as, within))

    module _ (roomy : most_output ≤ length x - w) {e : Event} (ev : e ≡ event_of received (get_or body i 0)) where
      abbrev samples : List ℕ
      samples = take (length ss - u) (drop u ss)

      abbrev lends : List ℕ
      lends = take (length x - w) (drop w x)

      q : drop i (events_of received body) ≡ e ∷ drop (i + 1) (events_of received body)
      q = events_cons received body i within ∙ ap (λ (v : Event). v ∷ drop (i + 1) (events_of received body)) (sym ev)

      module _ {y : List ℕ} {d : Done} (a : EventTaken (call_of (bridge_of t) e samples) samples lends y d) where
        a' : EventTaken (call_of (bridge_of t) e (drop u ss)) (drop u ss) lends y d
        a' = subst (λ (l : List ℕ). EventTaken (call_of (bridge_of t) e l) l lends y d) (tail_as ss u) a

        pub body_used : u + d.used ≤ length ss
        body_used = room_used n s (events_of received body) ss o g e q more roomy y d a'

        pub body_written : w + d.written ≤ length o
        body_written = room_written n s (events_of received body) ss o g e q more roomy y d a'

        pub body_step : Reaching n s (events_of received body) ss o (take w x ++ (y ++ drop (length x - w) (drop w x))) d.state (i + 1) (u + d.used) (w + d.written)
        body_step = reaching_step n s (events_of received body) ss o g e q more roomy y d a' (omega (arith, es_as, within))

      module _ {y : List ℕ} {why : Refusal} (a : EventRefused (call_of (bridge_of t) e samples) lends y why) where
        b' : EventRefused (call_of (bridge_of t) e (drop u ss)) lends y why
        b' = subst (λ (l : List ℕ). EventRefused (call_of (bridge_of t) e l) lends y why) (tail_as ss u) a

        pub body_same : length (take w x ++ (y ++ drop (length x - w) (drop w x))) ≡ length o
        body_same = refused_same n s (events_of received body) ss o g e q more roomy y why b'

        pub body_refused : Reached (progress_of n (length o) (events_of received body) (bridge_of s) ss) (events_of received body) ss o (take w x ++ (y ++ drop (length x - w) (drop w x))) (record { state = t; read = i; used = u; written = w; outcome = Err why })
        body_refused = reached_refused n s (events_of received body) ss o g e q more roomy y why b'
