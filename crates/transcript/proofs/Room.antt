-- A call with room that suffices answers as the history's does, and the most that an event can give suffices. Assumes nothing.
use Prim.Native.Nat.{ℕ, ◌+◌}
use mathlib.Core.Path.{◌≡◌, refl, sym}
use mathlib.Core.List.{List}
use native.Mathlib.Omega.{arith}
use borrow.Author.Tests.{le-leb}
use lib.ListN.{length}
use Rattle.wire.specs.Action.{bytes_of}
use Rattle.wire.specs.Buffer.{overwrite, fits_in}
use Rattle.wire.proofs.Actions.{bytes_length}
use Rattle.registers.specs.Ranges.{state_fits}
use Rattle.registers.specs.declared.Event.{Event}
use Rattle.decisions.specs.Effects.{sent_by}
use Rattle.decisions.proofs.Bounds.{event_actions, event_replies}
use Rattle.bridge.specs.Answering.{Lent, lent, Given, effect, answer_of}
use Rattle.bridge.specs.declared.Bridge.{Bridge}
use Rattle.std.specs.Prelude.{Result, Ok, Err}
use Rattle.refusals.specs.declared.Refusal.TheVariants.{Ranges, Samples}
use Rattle.wire.proofs.Choices.{by_bool}
use Rattle.transcript.specs.Transcript.{call_of, Suffices, AnyRoom, EnoughRoom}
use Rattle.transcript.proofs.CallTests.{call_ranges, call_short, call_accepted}
use Rattle.transcript.proofs.CallTests.{not_refused_lem}

-- the call by its four tests, of which the last two are passed
module _ (b : Bridge) (e : Event) (ss : List ℕ) (as' : List ℕ) (a : ℕ) (rs : List ℕ) (r : ℕ) (s : Suffices b e (lent ss 0 as' a rs r)) where
  abbrev l : Lent
  l = lent ss 0 as' a rs r

  abbrev Same : Given → Given → Type 0
  Same h g = (h.answer ≡ g.answer) × (g.answer.outcome ≡ Ok tt → (h.actions ≡ overwrite as' a g.actions) × (h.replies ≡ overwrite rs r g.replies))

  same_call : Same (answer_of b e l) (call_of b e ss)
  unfolding answer_of
  same_call =
      by_bool (state_fits b.state)
      (λ h. by_bool (fits_in (length ss) 0 (effect b e l).used)
      (λ k. rw (call_accepted b e ss h k, h, k, s.0, s.1) (refl, λ _. (refl, refl)))
      (λ k. rw (call_short b e ss h k, h, k) (refl, λ q. absurd (not_refused_lem Samples (sym q)))))
      (λ h. rw (call_ranges b e ss h, h) (refl, λ q. absurd (not_refused_lem Ranges (sym q))))

pub any_room : AnyRoom
any_room b e ss as' a rs r s =
    let c = same_call b e ss as' a rs r s in
    record { answer = c.0; actions = λ q. (c.1 q).0; replies = λ q. (c.1 q).1 }

pub enough_room : (b : Bridge) (e : Event) (l : Lent) → EnoughRoom b e l
enough_room b e l n z ha hr =
    let x = effect b e l in (
      le-leb (l.acted + length (bytes_of x.actions)) (length l.actions) (omega (arith, bytes_length x.actions, event_actions b.state e l.samples l.sampled n)),
      le-leb (l.replied + length (sent_by x)) (length l.replies) (omega (arith, event_replies b.state e l.samples l.sampled n z)),
    )
