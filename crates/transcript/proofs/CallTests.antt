-- The call for an event, by its tests. Assumes nothing.
use Prim.Native.Nat.{ℕ, ◌+◌, ◌≤◌}
use mathlib.Core.Path.{◌≡◌, sym, ap, ◌∙◌}
use mathlib.Core.Bool.{true, false}
use mathlib.Core.List.{List, [], ◌++◌, append-nil}
use native.Mathlib.Omega.{arith}
use borrow.Author.Tests.{le-leb, leb-true}
use lib.ListN.{length, length-replicate, drop_of_length-le}
use Rattle.packet.specs.Register.{zeros}
use Rattle.wire.specs.Action.{bytes_of}
use Rattle.wire.specs.Buffer.{overwrite, fits_in}
use Rattle.wire.proofs.Buffers.{overwrite_right}
use Rattle.registers.specs.Ranges.{state_fits}
use Rattle.registers.specs.declared.Event.{Event}
use Rattle.decisions.specs.Said.{codes_of}
use Rattle.decisions.specs.Effects.{Effect, sent_by}
use Rattle.decisions.specs.Events.{effect_of}
use Rattle.bridge.specs.Answering.{Given, given, acceptance, refused, answer_of}
use Rattle.std.specs.Prelude.{Result, Ok, Err}
use Rattle.refusals.specs.declared.Refusal.{Refusal}
use Rattle.refusals.specs.declared.Refusal.TheVariants.{Ranges, Samples}
use Rattle.bridge.specs.declared.Bridge.{Bridge}
use Rattle.wire.proofs.Choices.{by_bool}
use Rattle.transcript.specs.Transcript.{room, call_of}

pub not_refused_lem : (why : Refusal) → ◌≡◌ {A = Result (Unit {0}) Refusal} (Ok tt) (Err why) → ⊥
not_refused_lem why q = cc

zeros_length : (xs : List ℕ) → length (zeros (length xs)) ≡ length xs
zeros_length xs = let z : ℕ = 0 in length-replicate (length xs) z

-- room for just as many bytes, filled
filled : (xs : List ℕ) → overwrite (zeros (length xs)) 0 xs ≡ xs
filled xs =
    let l = zeros (length xs) in
    let n : length l ≡ length xs = zeros_length xs in
    let h : length l ≤ 0 + length xs = omega (arith, n) in
    (overwrite_right l 0 xs).parts (omega (arith, n)) ∙ ap (λ (r : List ℕ). xs ++ r) (drop_of_length-le l h) ∙ append-nil xs

fits_just : (xs : List ℕ) → fits_in (length (zeros (length xs))) 0 (length xs) ≡ true
fits_just xs = le-leb (0 + length xs) (length (zeros (length xs))) (omega (arith, zeros_length xs))

module _ (b : Bridge) (e : Event) (ss : List ℕ) where
  abbrev x : Effect
  x = effect_of b.state e ss 0

  abbrev pub accepted_call : Given
  accepted_call = given (acceptance x.state (codes_of x.said) x.used (length (sent_by x)) (length x.actions)) (bytes_of x.actions) (sent_by x)

  pub call_ranges : state_fits b.state ≡ false → call_of b e ss ≡ refused b (room ss x) Ranges
  unfolding call_of answer_of
  call_ranges h = rw h

  pub call_short : state_fits b.state ≡ true → fits_in (length ss) 0 x.used ≡ false → call_of b e ss ≡ refused b (room ss x) Samples
  unfolding call_of answer_of
  call_short h k = rw (h, k)

  pub call_accepted : state_fits b.state ≡ true → fits_in (length ss) 0 x.used ≡ true → call_of b e ss ≡ accepted_call
  unfolding call_of answer_of
  call_accepted h k = rw (h, k, fits_just (bytes_of x.actions), fits_just (sent_by x), filled (bytes_of x.actions), filled (sent_by x))

  -- no call uses more samples than there are
  pub call_few : (call_of b e ss).answer.samples ≤ length ss
  call_few =
      by_bool (state_fits b.state)
      (λ h. by_bool (fits_in (length ss) 0 x.used) (λ k. rw (call_accepted h k) (omega (arith, leb-true (0 + x.used) (length ss) k))) (λ k. rw (call_short h k) (omega arith)))
      (λ h. rw (call_ranges h) (omega arith))

  -- a refused call returns no code
  pub call_codeless : (why : Refusal) → (call_of b e ss).answer.outcome ≡ Err why → (call_of b e ss).answer.codes ≡ []
  call_codeless why q =
      by_bool (state_fits b.state)
      (λ h. by_bool (fits_in (length ss) 0 x.used)
      (λ k. absurd (not_refused_lem why (sym (ap (λ (g : Given). g.answer.outcome) (call_accepted h k)) ∙ q))) (λ k. ap (λ (g : Given). g.answer.codes) (call_short h k)))
      (λ h. ap (λ (g : Given). g.answer.codes) (call_ranges h))
