-- The ways that a call can go: refused for the lowest reason that applies, or accepted. Assumes nothing.
use Prim.Native.Nat.{ℕ, ◌+◌, ◌≤◌, ◌<◌}
use mathlib.Core.Path.{◌≡◌, refl, sym, ◌∙◌}
use mathlib.Core.Bool.{Bool, true, false, false≢true}
use mathlib.Core.List.{List}
use mathlib.Core.Logic.{inl, inr}
use native.Mathlib.Omega.{arith}
use native.Mathlib.Decide.{dec_lt}
use borrow.Author.Tests.{leb-true, leb-false}
use lib.ListN.{length}
use Rattle.wire.specs.Action.{bytes_of}
use Rattle.wire.specs.Buffer.{fits_in}
use Rattle.registers.specs.Ranges.{state_fits, InRange}
use Rattle.registers.specs.declared.Event.{Event}
use Rattle.registers.proofs.InRange.{range_test}
use Rattle.decisions.specs.Effects.{sent_by}
use Rattle.refusals.specs.Refusals.{number_of}
use Rattle.refusals.specs.declared.Refusal.{Refusal}
use Rattle.refusals.specs.declared.Refusal.TheVariants.{Ranges, Samples, Actions, Replies, Header, Length, Passes, Kind, FaultBody, Size, Factory, Waits}
use Rattle.refusals.proofs.Numbers.{same_number, by_number}
use Rattle.bridge.specs.Answering.{Bridge, Lent, Given, effect, refused, accepted, unless, answer_of}
use Rattle.bridge.specs.Demands.{TooFew, Applies, Lowest}

-- ROOM

pub too_few : (bytes : List ℕ) (mark need : ℕ) → fits_in (length bytes) mark need ≡ false → TooFew bytes mark need
too_few bytes mark need e = go (dec_lt (length bytes) mark)
  where
    go : Dec (length bytes < mark) → TooFew bytes mark need
    go (yes h) = inl h
    go (no h) = inr (omega (arith, leb-false (mark + need) (length bytes) e))

pub room : (bytes : List ℕ) (mark need : ℕ) → ¬ TooFew bytes mark need → mark + need ≤ length bytes
room bytes mark need n = go (dec_lt (length bytes) (mark + need))
  where
    go : Dec (length bytes < mark + need) → mark + need ≤ length bytes
    go (no h) = omega arith
    go (yes h) = absurd (n (less (dec_lt (length bytes) mark)))
      where
        less : Dec (length bytes < mark) → TooFew bytes mark need
        less (yes k) = inl k
        less (no k) = inr (omega arith)

enough : (bytes : List ℕ) (mark need : ℕ) → fits_in (length bytes) mark need ≡ true → ¬ TooFew bytes mark need
enough bytes mark need e (inl h) = omega (arith, leb-true (mark + need) (length bytes) e)
enough bytes mark need e (inr h) = omega (arith, leb-true (mark + need) (length bytes) e)

-- ONE REASON IS THE LOWEST

pub data Went (b : Bridge) (e : Event) (l : Lent) : Given → Type 0 where
  refused_for : (r : Refusal) → Lowest b e l r → Went b e l (refused b l r)
  was_accepted : ((r : Refusal) → ¬ Applies b e l r) → Went b e l (accepted (effect b e l) l)

module _ (b : Bridge) (e : Event) (l : Lent) where
  pub lowest_one : (r q : Refusal) → Lowest b e l r → Lowest b e l q → r ≡ q
  lowest_one r q x y = go (dec_lt (number_of r) (number_of q)) (dec_lt (number_of q) (number_of r))
    where
      go : Dec (number_of r < number_of q) → Dec (number_of q < number_of r) → r ≡ q
      go (yes h) d = absurd (y.1 r h x.0)
      go (no h) (yes k) = absurd (x.1 q k y.0)
      go (no h) (no k) = same_number r q (omega arith)

  -- no reason below a number applies
  Clear : ℕ → Type 0
  Clear n = (q : Refusal) → number_of q < n → ¬ Applies b e l q

  None : Refusal → Type 0
  None q = ¬ Applies b e l q

  clear_ranges : Clear 1
  unfolding Clear None
  clear_ranges q h = by_number None q (λ n. absurd (omega (arith, h))) (λ n. absurd (omega (arith, h))) (λ n. absurd (omega (arith, h))) (λ n. absurd (omega (arith, h))) (λ n. absurd (omega (arith, h)))

  clear_samples : InRange b.state → Clear 2
  unfolding Clear None
  clear_samples r q h = by_number None q (λ n a. a r) (λ n. absurd (omega (arith, h))) (λ n. absurd (omega (arith, h))) (λ n. absurd (omega (arith, h))) (λ n. absurd (omega (arith, h)))

  -- one more reason that does not apply
  clear_actions : Clear 2 → ¬ Applies b e l Samples → Clear 3
  unfolding Clear None
  clear_actions c x q h = by_number None q (λ n. c Ranges (omega arith)) (λ n. x) (λ n. absurd (omega (arith, h))) (λ n. absurd (omega (arith, h))) (λ n. absurd (omega (arith, h)))

  clear_replies : Clear 3 → ¬ Applies b e l Actions → Clear 4
  unfolding Clear None
  clear_replies c x q h = by_number None q (λ n. c Ranges (omega arith)) (λ n. c Samples (omega arith)) (λ n. x) (λ n. absurd (omega (arith, h))) (λ n. absurd (omega (arith, h)))

  of_no_event : (q : Refusal) → 4 < number_of q → ¬ Applies b e l q
  of_no_event Ranges h = absurd (omega (arith, h))
  of_no_event Samples h = absurd (omega (arith, h))
  of_no_event Actions h = absurd (omega (arith, h))
  of_no_event Replies h = absurd (omega (arith, h))
  of_no_event Header h = λ z. z
  of_no_event Length h = λ z. z
  of_no_event Passes h = λ z. z
  of_no_event Kind h = λ z. z
  of_no_event FaultBody h = λ z. z
  of_no_event Size h = λ z. z
  of_no_event Factory h = λ z. z
  of_no_event Waits h = λ z. z

  clear_all : Clear 4 → ¬ Applies b e l Replies → (r : Refusal) → ¬ Applies b e l r
  unfolding Clear None
  clear_all c x q = by_number None q (λ n. c Ranges (omega arith)) (λ n. c Samples (omega arith)) (λ n. c Actions (omega arith)) (λ n. x) (of_no_event q)

  pub went : Went b e l (answer_of b e l)
  unfolding answer_of Clear
  went = ranges (state_fits b.state) refl
    where
      used : ℕ
      used = (effect b e l).used

      acts : ℕ
      acts = length (bytes_of (effect b e l).actions)

      sends : ℕ
      sends = length (sent_by (effect b e l))

      in_replies : (t : Bool) → fits_in (length l.replies) l.replied sends ≡ t → Clear 4 → Went b e l (unless t (refused b l Replies) (accepted (effect b e l) l))
      in_replies true h c = was_accepted (clear_all c (enough l.replies l.replied sends h))
      in_replies false h c = refused_for Replies (too_few l.replies l.replied sends h, c)

      in_actions : (t : Bool) → fits_in (length l.actions) l.acted acts ≡ t → Clear 3
          → Went b e l (unless t (refused b l Actions) (unless (fits_in (length l.replies) l.replied sends) (refused b l Replies) (accepted (effect b e l) l)))
      in_actions true h c = in_replies (fits_in (length l.replies) l.replied sends) refl (clear_replies c (enough l.actions l.acted acts h))
      in_actions false h c = refused_for Actions (too_few l.actions l.acted acts h, c)

      in_samples : (t : Bool) → fits_in (length l.samples) l.sampled used ≡ t → Clear 2
          → Went b e l (unless t (refused b l Samples) (unless (fits_in (length l.actions) l.acted acts) (refused b l Actions) (unless (fits_in (length l.replies) l.replied sends) (refused b l Replies) (accepted (effect b e l) l))))
      in_samples true h c = in_actions (fits_in (length l.actions) l.acted acts) refl (clear_actions c (enough l.samples l.sampled used h))
      in_samples false h c = refused_for Samples (too_few l.samples l.sampled used h, c)

      ranges : (t : Bool) → state_fits b.state ≡ t
          → Went b e l (unless t (refused b l Ranges) (unless (fits_in (length l.samples) l.sampled used) (refused b l Samples) (unless (fits_in (length l.actions) l.acted acts) (refused b l Actions) (unless (fits_in (length l.replies) l.replied sends) (refused b l Replies) (accepted (effect b e l) l)))))
      ranges true h = in_samples (fits_in (length l.samples) l.sampled used) refl (clear_samples ((range_test b.state).0 h))
      ranges false h = refused_for Ranges ((λ r. false≢true (sym h ∙ (range_test b.state).1 r)), clear_ranges)
