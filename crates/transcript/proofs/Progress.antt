-- Progress through a body's events, by its tests; and the tests of the code. Assumes nothing.
use Prim.Native.Nat.{ℕ, min, zero, suc, ◌+◌, ◌-◌, ◌≤◌, ◌<◌}
use mathlib.Core.Path.{◌≡◌, refl, sym, ap, ◌∙◌, subst}
use mathlib.Core.Bool.{Bool, true, false, cond, not, ◌&&◌, true≢false}
use mathlib.Core.List.{List, [], ◌∷◌}
use native.Mathlib.Omega.{arith}
use borrow.Author.Tests.{ltb-true, ltb-false, lt-ltb, le-ltb, not-true}
use lib.Dec.{ltb}
use lib.ListN.{length, drop}
use Rattle.codes.proofs.Both.{both_left, both_right}
use Rattle.registers.specs.declared.Event.{Event}
use Rattle.registers.specs.declared.State.{State}
use Rattle.refusals.specs.declared.Refusal.{Refusal}
use Rattle.bridge.specs.Answering.{Given}
use Rattle.bridge.specs.declared.Bridge.{Bridge}
use Rattle.std.specs.Prelude.{Result, Ok, Err}
use Rattle.records.specs.declared.contents.Received.{Received}
use Rattle.records.specs.Contents.{events_of}
use Rattle.wire.proofs.Choices.{by_bool, by_cond}
use Rattle.transcript.specs.Transcript.{call_of, output_of, most_output}
use Rattle.transcript.specs.Events.{bridge_of, Progress, halt, onward, progress_of, Reached, Reach}
use Rattle.records.proofs.Parts.{events_length}

pub progress_step : (n room : ℕ) (e : Event) (es : List Event) (b : Bridge) (ss : List ℕ) → most_output ≤ room
    → progress_of (suc n) room (e ∷ es) b ss
    ≡ onward (call_of b e ss).answer.outcome b (call_of b e ss) (progress_of n (room - length (output_of (call_of b e ss))) es (call_of b e ss).answer.bridge (drop (call_of b e ss).answer.samples ss))
progress_step n room e es b ss h =
    ap (λ (t : Bool). cond t (halt b (Ok tt)) (onward (call_of b e ss).answer.outcome b (call_of b e ss) (progress_of n (room - length (output_of (call_of b e ss))) es (call_of b e ss).answer.bridge (drop (call_of b e ss).answer.samples ss)))) (le-ltb room most_output h)

pub progress_short : (n room : ℕ) (es : List Event) (b : Bridge) (ss : List ℕ) → room < most_output → progress_of n room es b ss ≡ halt b (Ok tt)
progress_short zero room es b ss h = refl
progress_short (suc n) room [] b ss h = refl
progress_short (suc n) room (e ∷ es) b ss h =
    ap (λ (t : Bool). cond t (halt b (Ok tt)) (onward (call_of b e ss).answer.outcome b (call_of b e ss) (progress_of n (room - length (output_of (call_of b e ss))) es (call_of b e ss).answer.bridge (drop (call_of b e ss).answer.samples ss)))) (lt-ltb room most_output h)

-- no more events than there are
pub progress_all : (n room : ℕ) (es : List Event) (b : Bridge) (ss : List ℕ) → length es ≤ n → progress_of (length es) room es b ss ≡ progress_of n room es b ss
progress_all zero room [] b ss h = refl
progress_all zero room (e ∷ es) b ss h = absurd (omega arith)
progress_all (suc n) room [] b ss h = refl
progress_all (suc n) room (e ∷ es) b ss h =
    ap (λ (p : Progress). cond (ltb room most_output) (halt b (Ok tt)) (onward (call_of b e ss).answer.outcome b (call_of b e ss) p))
    (progress_all n (room - length (output_of (call_of b e ss))) es (call_of b e ss).answer.bridge (drop (call_of b e ss).answer.samples ss) (omega arith))

-- the events that were tried
abbrev pub tried : Result (Unit {0}) Refusal → Progress → ℕ
tried (Ok tt) p = p.read
tried (Err why) p = p.read + 1

tried_onward : (t : Result (Unit {0}) Refusal) (b : Bridge) (g : Given) (p : Progress) → tried t (onward (Ok tt) b g p) ≡ 1 + tried t p
tried_onward (Ok tt) b g p = refl
tried_onward (Err why) b g p = omega arith

onward_few : (n : ℕ) (t : Result (Unit {0}) Refusal) (b : Bridge) (g : Given) (p : Progress) → tried p.outcome p ≤ n → tried (onward t b g p).outcome (onward t b g p) ≤ suc n
onward_few n (Ok tt) b g p h = omega (arith, tried_onward p.outcome b g p)
onward_few n (Err why) b g p h = omega arith

pub progress_few : (n room : ℕ) (es : List Event) (b : Bridge) (ss : List ℕ) → tried (progress_of n room es b ss).outcome (progress_of n room es b ss) ≤ n
progress_few zero room es b ss = omega arith
progress_few (suc n) room [] b ss = omega arith
progress_few (suc n) room (e ∷ es) b ss =
    by_cond (λ (p : Progress). tried p.outcome p ≤ suc n) (ltb room most_output) (λ _. omega arith)
    (λ _. onward_few n (call_of b e ss).answer.outcome b (call_of b e ss) (progress_of n (room - length (output_of (call_of b e ss))) es (call_of b e ss).answer.bridge (drop (call_of b e ss).answer.samples ss))
    (progress_few n (room - length (output_of (call_of b e ss))) es (call_of b e ss).answer.bridge (drop (call_of b e ss).answer.samples ss)))

-- THE TESTS of the code

pub range_broken : (n : ℕ) (t : Bool) → ltb 0 n && not t ≡ true → (0 < n) × (t ≡ false)
range_broken n t h = (ltb-true 0 n (both_left (ltb 0 n) (not t) h), not-true t (both_right (ltb 0 n) (not t) h))

pub range_kept : (n : ℕ) (t : Bool) → ltb 0 n && not t ≡ false → 0 < n → t ≡ true
range_kept n true h k = refl
range_kept n false h k = absurd (true≢false (sym (ap (λ (b : Bool). b && true) (lt-ltb 0 n k)) ∙ h))

-- at most as many events as there are and as the budget has
pub least_reached : (n : ℕ) (s : State) (received : Received) (body ss o x : List ℕ) (most : ℕ) (r : Reach) → most ≡ min (length body) n
    → Reached (progress_of most (length o) (events_of received body) (bridge_of s) ss) (events_of received body) ss o x r
    → Reached (progress_of n (length o) (events_of received body) (bridge_of s) ss) (events_of received body) ss o x r
least_reached n s received body ss o x most r e =
    subst (λ (p : Progress). Reached p (events_of received body) ss o x r)
    (by_bool (ltb (length body) n)
    (λ t.
    let h : length body ≤ n = omega (arith, ltb-true (length body) n t) in
    let v : most ≡ length body = omega arith in
    ap (λ (m : ℕ). progress_of m (length o) (events_of received body) (bridge_of s) ss) (v ∙ sym (events_length received body))
    ∙ progress_all n (length o) (events_of received body) (bridge_of s) ss (omega (arith, events_length received body)))
    (λ t. let v : most ≡ n = omega (arith, ltb-false (length body) n t) in ap (λ (m : ℕ). progress_of m (length o) (events_of received body) (bridge_of s) ss) v))
