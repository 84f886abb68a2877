-- Demand 2: what a call not refused gives. Assumes nothing.
use Prim.Native.Nat.{ℕ, ◌+◌, ◌*◌, ◌≤◌}
use mathlib.Core.Path.{◌≡◌, refl, sym, ap, subst, ◌∙◌}
use mathlib.Core.Bool.{Bool, true, false, false≢true}
use mathlib.Core.List.{List}
use lib.ListN.{length}
use Rattle.std.specs.Prelude.{Ok}
use Rattle.codes.specs.Codes.{any_rejecting}
use Rattle.wire.specs.Action.{Action, bytes_of}
use Rattle.wire.specs.Buffer.{overwrite}
use Rattle.wire.specs.Sample.{SameFrom}
use Rattle.wire.proofs.Actions.{bytes_length}
use Rattle.wire.proofs.Buffers.{overwrite_right, overwrite_none}
use Rattle.registers.specs.Ranges.{state_fits, InRange}
use Rattle.registers.specs.declared.Event.{Event}
use Rattle.registers.proofs.InRange.{range_test}
use Rattle.decisions.specs.Said.{codes_of}
use Rattle.decisions.specs.Effects.{Effect, sent_by}
use Rattle.decisions.proofs.Rejects.{event_rejects}
use Rattle.decisions.proofs.Samples.{event_takes, event_same}
use Rattle.refusals.specs.declared.Refusal.TheVariants.{Ranges, Actions, Replies}
use Rattle.bridge.specs.Answering.{Bridge, Lent, Given, effect, accepted, answer_of}
use Rattle.bridge.specs.Demands.{filled, OnlyErrorChanged, Demand2, SameSamples}
use Rattle.bridge.proofs.StepOutcomes.{room, Went, refused_for, was_accepted, went}
use Rattle.bridge.proofs.Demand1.{not_taken, demand_1}

module _ (b : Bridge) (e : Event) (l : Lent) where
  gives : (g : Given) → Went b e l g → g.answer.outcome ≡ Ok tt → g ≡ accepted (effect b e l) l
  gives g (refused_for r w) z = not_taken z
  gives g (was_accepted n) z = refl

  module _ (z : (answer_of b e l).answer.outcome ≡ Ok tt) where
    is : answer_of b e l ≡ accepted (effect b e l) l
    is = gives (answer_of b e l) (went b e l) z

    fill : (bytes : List ℕ) (mark : ℕ) (xs : List ℕ) → mark + length xs ≤ length bytes → overwrite bytes mark xs ≡ filled bytes mark xs
    fill bytes mark xs h = (overwrite_right bytes mark xs).parts h

    acts_fit : l.acted + length (bytes_of (effect b e l).actions) ≤ length l.actions
    acts_fit = room l.actions l.acted _ ((demand_1 b e l).taken_otherwise.0 z Actions)

    replies_fit : l.replied + length (sent_by (effect b e l)) ≤ length l.replies
    replies_fit = room l.replies l.replied _ ((demand_1 b e l).taken_otherwise.0 z Replies)

    in_range : InRange b.state
    in_range = go (state_fits b.state) refl
      where
        go : (t : Bool) → state_fits b.state ≡ t → InRange b.state
        go true h = (range_test b.state).0 h
        go false h = absurd ((demand_1 b e l).taken_otherwise.0 z Ranges (λ r. false≢true (sym h ∙ (range_test b.state).1 r)))

    counted : (answer_of b e l).answer.samples ≡ (effect b e l).used
    counted = ap (λ (g : Given). g.answer.samples) is

    returned : (answer_of b e l).answer.codes ≡ codes_of (effect b e l).said
    returned = ap (λ (g : Given). g.answer.codes) is

    only_error : any_rejecting (answer_of b e l).answer.codes ≡ true → OnlyErrorChanged b e l
    only_error h =
        let x = event_rejects b.state e l.samples l.sampled (sym (ap any_rejecting returned) ∙ h) in
        record {
          code = x.code;
          returned = returned ∙ x.returned;
          rejects = x.rejects;
          state = ap (λ (g : Given). g.answer.bridge.state) is ∙ x.state;
          no_action = ap (λ (g : Given). g.answer.actions) is ∙ ap length x.actions;
          no_sample = counted ∙ x.used;
          pins = ap (λ (g : Given). g.actions) is ∙ ap (λ (k : List Action). overwrite l.actions l.acted (bytes_of k)) x.actions ∙ overwrite_none l.actions l.acted;
        }

  pub demand_2 : Demand2 b e l
  demand_2 = record {
    gives = is;
    actions_written = λ z. ap (λ (g : Given). g.actions) (is z) ∙ fill z l.actions l.acted (bytes_of (effect b e l).actions) (acts_fit z);
    replies_written = λ z. ap (λ (g : Given). g.replies) (is z) ∙ fill z l.replies l.replied (sent_by (effect b e l)) (replies_fit z);
    actions_counted = λ z. ap (λ (g : Given). 4 * g.answer.actions) (is z) ∙ sym (bytes_length (effect b e l).actions);
    replies_counted = λ z. ap (λ (g : Given). g.answer.replies) (is z);
    samples_counted = counted;
    samples_taken = λ y z. counted z ∙ event_takes b.state e l.samples l.sampled (in_range z) y;
    codes_returned = returned;
    rejected = only_error;
  }

-- THE SAME SAMPLES

pub same_samples : (b : Bridge) (e : Event) (l k : Lent) → SameSamples b e l k
same_samples b e l k = record {
  effects = same;
  answers = λ y z h.
      ap (λ (g : Given). g.answer) (is b e l y)
      ∙ ap (λ (x : Effect). (accepted x l).answer) (same (subst (λ (n : ℕ). SameFrom n l.samples l.sampled k.samples k.sampled) (counted b e l y) h))
      ∙ sym (ap (λ (g : Given). g.answer) (is b e k z));
}
  where
    same : SameFrom (effect b e l).used l.samples l.sampled k.samples k.sampled → effect b e l ≡ effect b e k
    same = event_same b.state e l.samples l.sampled k.samples k.sampled
