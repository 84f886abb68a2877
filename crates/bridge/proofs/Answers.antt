-- Each way out of a call, over plain variables, is the definition's. Assumes nothing.
use Prim.Native.Nat.{ℕ, ◌*◌, ◌/◌}
use mathlib.Core.Path.{◌≡◌, sym, ap, ◌∙◌}
use mathlib.Core.Bool.{true, false}
use mathlib.Core.List.{List}
use native.Mathlib.Omega.{arith}
use borrow.Author.Tests.{leb-false}
use lib.ListN.{length}
use Rattle.std.specs.Prelude.{Result, Ok, Err, IsErrAnd, MatchResult}
use Rattle.wire.specs.Action.{bytes_of}
use Rattle.wire.specs.Buffer.{overwrite, fits_in}
use Rattle.wire.proofs.Actions.{bytes_length, actions_count}
use Rattle.wire.proofs.Buffers.{past_the_end}
use Rattle.registers.specs.Ranges.{state_fits}
use Rattle.registers.specs.declared.Event.{Event}
use Rattle.decisions.specs.Effects.{sent_by}
use Rattle.effects.specs.Returning.{codes_in}
use Rattle.refusals.specs.declared.Refusal.{Refusal}
use Rattle.refusals.specs.declared.Refusal.TheVariants.{Ranges, Samples, Actions, Replies}
use Rattle.bridge.specs.Answering.{Bridge, Lent, effect, given, acceptance, refused, accepted, answer_of}
use Rattle.bridge.specs.Measuring.{Measured, MeasuredAs, Admitted}

module _ (b : Bridge) (e : Event) (l : Lent) where
  -- a test that failed ends the call with its reason
  pub stopped : (r : Result Measured Refusal) {x why : Refusal} → IsErrAnd r (λ y. y ≡ x) → x ≡ why → refused b l why ≡ answer_of b e l → MatchResult r (Admitted b e l) (λ y. refused b l y ≡ answer_of b e l)
  stopped (Ok m) h q k = absurd h
  stopped (Err y) h q k = ap (refused b l) (h ∙ q) ∙ k

  pub refuse_ranges : state_fits b.state ≡ false → refused b l Ranges ≡ answer_of b e l
  unfolding answer_of
  refuse_ranges h = rw h

  module _ (h : state_fits b.state ≡ true) where
    refuse_samples : fits_in (length l.samples) l.sampled (effect b e l).used ≡ false → refused b l Samples ≡ answer_of b e l
    unfolding answer_of
    refuse_samples g = rw (h, g)

    pub refuse_past : fits_in (length l.samples) l.sampled 0 ≡ false → refused b l Samples ≡ answer_of b e l
    refuse_past g = refuse_samples (past_the_end _ _ _ (omega (arith, leb-false _ _ g)))

    module _ {r : Measured} (m : MeasuredAs b.state e l.samples l.sampled r) where
      pub refuse_used : fits_in (length l.samples) l.sampled r.used ≡ false → refused b l Samples ≡ answer_of b e l
      refuse_used g = refuse_samples (rw m.used at g)

      module _ (g : fits_in (length l.samples) l.sampled r.used ≡ true) where
        bytes : r.bytes ≡ length (bytes_of (effect b e l).actions)
        bytes = m.bytes ∙ sym (bytes_length (effect b e l).actions)

        pub refuse_actions : fits_in (length l.actions) l.acted r.bytes ≡ false → refused b l Actions ≡ answer_of b e l
        unfolding answer_of
        refuse_actions k = rw (h, rw m.used at g, rw bytes at k)

        module _ (k : fits_in (length l.actions) l.acted r.bytes ≡ true) where
          pub refuse_replies : fits_in (length l.replies) l.replied r.size ≡ false → refused b l Replies ≡ answer_of b e l
          unfolding answer_of
          refuse_replies j = rw (h, rw m.used at g, rw bytes at k, rw m.size at j)

          pub admitted : fits_in (length l.replies) l.replied r.size ≡ true → Admitted b e l r
          unfolding answer_of
          admitted j = record { measured = m; actions_fit = k; replies_fit = j; taken = rw (h, rw m.used at g, rw bytes at k, rw m.size at j) }

  -- what was admitted, once written, is the definition's answer
  pub accept_event : {r : Measured} → Admitted b e l r → {as' rs : List ℕ} → as' ≡ overwrite l.actions l.acted (bytes_of (effect b e l).actions) → rs ≡ overwrite l.replies l.replied (sent_by (effect b e l))
      → given (acceptance r.state (codes_in r.returned) r.used r.size (r.bytes / 4)) as' rs ≡ answer_of b e l
  accept_event {r} t ea er =
      let m = t.measured in
      let quarter : r.bytes / 4 ≡ length (effect b e l).actions = ap (λ (x : ℕ). x / 4) (m.bytes ∙ sym (bytes_length (effect b e l).actions)) ∙ actions_count (effect b e l).actions in
      rw (m.state, m.codes, m.used, m.size, quarter, ea, er) t.taken
