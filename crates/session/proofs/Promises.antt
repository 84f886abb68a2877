-- What steps promise, by the steps one after another. Assumes nothing.
use Prim.Native.Nat.{ℕ, zero, suc, ◌+◌, ◌-◌, ◌≤◌, ◌<◌}
use mathlib.Core.Path.{◌≡◌, refl, sym, ap, ◌∙◌, subst}
use mathlib.Core.Bool.{true, false}
use mathlib.Core.List.{List, [], ◌++◌, append_assoc}
use mathlib.Core.Logic.{◌⊎◌, inl, inr, ⊎_elim}
use native.Mathlib.Omega.{arith}
use borrow.Author.Tests.{le-leb, leb-true, leb-false, ltb-true, ltb-false}
use lib.Dec.{leb, ltb}
use lib.ListN.{length, take, length-append}
use Rattle.wire.proofs.Buffers.{overwrite_through}
use Rattle.records.specs.Records.{record_from}
use Rattle.wire.proofs.Choices.{by_bool}
use Rattle.session.specs.History.{history_of, written, replay_of}
use Rattle.transcript.specs.Transcript.{most_output}
use Rattle.session.specs.Runs.{Cursor, Ran, begin, Steps, stay, then_steps, step_of, steps_of, finished, all_steps, left, Runs, ahead_of, rest_of, Promised, RunStops, Calls, over, call, JoinedChunks}
use Rattle.session.proofs.Records.{all_records}
use Rattle.session.proofs.Rest.{left_live, left_done, rest_done, rest_step, falls}
use Rattle.session.proofs.Along.{steps_over, steps_short, steps_none, steps_first, one_step_lem, too_long}

-- A FACT OF STEPS holds if it holds of none, and of a first one and the steps after it
module _ (P : ℕ → ℕ → Cursor → Steps → Type 0) (s : List ℕ)
    (over : (n room : ℕ) (c : Cursor) → c.done ≡ true → P n room c (stay c))
    (short : (n room : ℕ) (c : Cursor) → room < most_output → P n room c (stay c))
    (none : (room : ℕ) (c : Cursor) → P 0 room c (stay c))
    (first : (n room : ℕ) (c : Cursor) (t : Steps) → c.done ≡ false → most_output ≤ room → P n (room - length (step_of s c).bytes) (step_of s c).next t → P (suc n) room c (then_steps (step_of s c) t)) where
  by_steps : (n room : ℕ) (c : Cursor) → P n room c (steps_of n s room c)
  by_steps zero room c = subst (P 0 room c) (sym (steps_none s room c)) (none room c)
  by_steps (suc n) room c =
      by_bool c.done (λ h. subst (P (suc n) room c) (sym (steps_over (suc n) s room c h)) (over (suc n) room c h))
      (λ h. by_bool (ltb room most_output) (λ l. let v = ltb-true room most_output l in subst (P (suc n) room c) (sym (steps_short (suc n) s room c v)) (short (suc n) room c v))
      (λ l. let v = ltb-false room most_output l in subst (P (suc n) room c) (sym (steps_first n s room c h v)) (first n room c _ h v (by_steps n (room - length (step_of s c).bytes) (step_of s c).next))))

chunks : (s : List ℕ) (n room : ℕ) (c : Cursor) → (steps_of n s room c).bytes ++ rest_of s (steps_of n s room c).next ≡ rest_of s c
chunks s =
    by_steps (λ n room c t. t.bytes ++ rest_of s t.next ≡ rest_of s c) s (λ n room c h. refl) (λ n room c h. refl) (λ room c. refl)
    (λ n room c t live h q. append_assoc (step_of s c).bytes t.bytes (rest_of s t.next) ∙ ap (λ (l : List ℕ). (step_of s c).bytes ++ l) q ∙ sym (rest_step s c live))

ends : (s : List ℕ) (n room : ℕ) (c : Cursor) → ((steps_of n s room c).next.done ≡ true) ⊎ ((room - length (steps_of n s room c).bytes < most_output) ⊎ ((steps_of n s room c).steps ≡ n))
ends s =
    by_steps (λ n room c t. (t.next.done ≡ true) ⊎ ((room - length t.bytes < most_output) ⊎ (t.steps ≡ n))) s
    (λ n room c h. inl h) (λ n room c h. inr (inl (omega arith))) (λ room c. inr (inr refl))
    (λ n room c t live h q. ⊎_elim inl (λ z. inr (⊎_elim (λ (v : _). inl (omega (arith, length-append (step_of s c).bytes t.bytes, v))) (λ (v : _). inr (omega (arith, v, one_step_lem s c))) z)) q)

pub promised : (n : ℕ) (s : List ℕ) (room : ℕ) (c : Cursor) → Promised n s room c
promised n s room c = record { chunk = chunks s n room c; stops = ends s n room c }

-- EVERY STEP TAKES A BYTE of what is left
spent : (s : List ℕ) (n room : ℕ) (c : Cursor) → (steps_of n s room c).steps + left s (steps_of n s room c).next ≤ left s c
spent s =
    by_steps (λ n room c t. t.steps + left s t.next ≤ left s c) s (λ n room c h. omega arith) (λ n room c h. omega arith) (λ room c. omega arith)
    (λ n room c t live h q. omega (arith, q, falls s c live, one_step_lem s c))

pub further : (n : ℕ) (s : List ℕ) (room : ℕ) (c : Cursor) → 0 < n → most_output ≤ room → c.done ≡ false → left s (steps_of n s room c).next < left s c
further n s room c more h live =
    let m : n ≡ suc (n - 1) = omega arith in
    subst (λ (t : Steps). left s t.next < left s c) (sym (ap (λ (v : ℕ). steps_of v s room c) m ∙ steps_first (n - 1) s room c live h))
    (omega (arith, spent s (n - 1) (room - length (step_of s c).bytes) (step_of s c).next, falls s c live))

-- A RUN makes all the steps that there are
least : (s : List ℕ) (c : Cursor) → length s ≤ 32768 → left s c ≤ all_steps
least s c h = by_bool c.done (λ t. omega (arith, left_done s c t)) (λ t. omega (arith, left_live s c t))

over_by : (s : List ℕ) (c : Cursor) → left s c ≡ 0 → c.done ≡ true
over_by s c h = by_bool c.done (λ t. t) (λ t. absurd (omega (arith, left_live s c t)))

long_stops : (s : List ℕ) (n room : ℕ) (c : Cursor) → 32768 < length s → ((steps_of (suc n) s room c).next.done ≡ true) ⊎ (room - length (steps_of (suc n) s room c).bytes < most_output)
long_stops s n room c h =
    by_bool c.done (λ t. inl (ap (λ (u : Steps). u.next.done) (steps_over (suc n) s room c t) ∙ t))
    (λ t. by_bool (ltb room most_output)
    (λ v. inr (omega (arith, ap (λ (u : Steps). length u.bytes) (steps_short (suc n) s room c (ltb-true room most_output v)), ltb-true room most_output v)))
    (λ v.
    inl
    (ap (λ (u : Steps). u.next.done)
    (steps_first n s room c t (ltb-false room most_output v)
    ∙ ap (λ (u : Steps). then_steps u (steps_of n s (room - length u.bytes) u.next)) (too_long s c h))
    ∙ ap (λ (u : Steps). u.next.done) (steps_over n s _ finished refl))))

pub run_stops : RunStops
run_stops s room c =
    by_bool (leb (length s) 32768)
    (λ t. ⊎_elim inl (⊎_elim inr (λ (e : (steps_of all_steps s room c).steps ≡ all_steps). inl (over_by s (steps_of all_steps s room c).next (omega (arith, e, spent s all_steps room c, least s c (leb-true (length s) 32768 t)))))) (ends s all_steps room c))
    (λ t. long_stops s 32768 room c (leb-false (length s) 32768 t))

-- THE CHUNKS of all calls, joined
front : (n : ℕ) (s : List ℕ) (c : Cursor) {o x : List ℕ} {r : Ran} → Runs n s c o x r → take r.written x ≡ (steps_of n s (length o) c).bytes
front n s c {o} {x} {r} h =
    let bs = (steps_of n s (length o) c).bytes in
    let m = h.made in
    (λ k. take (m.wrote.after k) (m.wrote.bytes k)) ∙ overwrite_through o 0 bs (omega (arith, m.wrote.after, m.within))

joined : (s : List ℕ) (c : Cursor) (l : List ℕ) → Calls s c l → l ≡ rest_of s c
joined s c l (over h) = sym (rest_done s c h)
joined s c l (call {n = n} {o = o} {x = x} {l = m} {r = r} h k) =
    rw (joined s r.cursor m k, front n s c h, h.made.next) (chunks s n (length o) c)

from_begin : (s : List ℕ) → rest_of s begin ≡ replay_of s
unfolding rest_of ahead_of replay_of history_of record_from
from_begin s =
    by_bool (leb (length s) 32768) (λ t. rw (t, le-leb 0 (length s) (omega arith)) (ap written (sym (all_records s 0 begin.bridge [])))) (λ t. rw t)

pub joined_chunks : JoinedChunks
joined_chunks s l h = joined s begin l h ∙ from_begin s
