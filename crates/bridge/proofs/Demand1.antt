-- Demand 1: exactly when a call is refused, and what it then leaves. Assumes nothing.
use mathlib.Core.Path.{◌≡◌, refl, sym, ap, subst}
use mathlib.Core.Bool.{false≢true}
use mathlib.Core.Logic.{◌↔◌}
use Rattle.std.specs.Prelude.{Result, Ok, Err, is_ok, is_err}
use Rattle.registers.specs.declared.Event.{Event}
use Rattle.refusals.specs.declared.Refusal.{Refusal}
use Rattle.refusals.specs.declared.Refusal.TheVariants.{Ranges}
use Rattle.bridge.specs.Answering.{Bridge, Lent, Given, refused, answer_of}
use Rattle.bridge.specs.Demands.{Applies, Lowest, Demand1}
use Rattle.bridge.proofs.StepOutcomes.{Went, refused_for, was_accepted, lowest_one, went}

-- the two outcomes, told apart
pub same_reason : {r q : Refusal} → ◌≡◌ {A = Result (Unit {0}) Refusal} (Err r) (Err q) → r ≡ q
same_reason e = cc

pub not_refused_lem : {r : Refusal} {A : Type 0} → ◌≡◌ {A = Result (Unit {0}) Refusal} (Ok tt) (Err r) → A
not_refused_lem e = absurd (false≢true (ap is_err e))

pub not_taken : {r : Refusal} {A : Type 0} → ◌≡◌ {A = Result (Unit {0}) Refusal} (Err r) (Ok tt) → A
not_taken e = absurd (false≢true (ap is_ok e))

module _ (b : Bridge) (e : Event) (l : Lent) where
  exactly : (g : Given) → Went b e l g → (r : Refusal) → (g.answer.outcome ≡ Err r) ↔ Lowest b e l r
  exactly g (refused_for q w) r = (λ z. subst (Lowest b e l) (same_reason z) w, λ x. ap Err (lowest_one b e l q r w x))
  exactly g (was_accepted n) r = (not_refused_lem, λ x. absurd (n r x.0))

  otherwise : (g : Given) → Went b e l g → (g.answer.outcome ≡ Ok tt) ↔ ((r : Refusal) → ¬ Applies b e l r)
  otherwise g (refused_for q w) = (not_taken, λ n. absurd (n q w.0))
  otherwise g (was_accepted n) = (λ z. n, λ z. refl)

  left_alone : (g : Given) → Went b e l g → (r : Refusal) → g.answer.outcome ≡ Err r → g ≡ refused b l r
  left_alone g (refused_for q w) r z = ap (refused b l) (same_reason z)
  left_alone g (was_accepted n) r z = not_refused_lem z

  pub demand_1 : Demand1 b e l
  demand_1 = record {
    exactly_when = exactly (answer_of b e l) (went b e l);
    taken_otherwise = otherwise (answer_of b e l) (went b e l);
    leaves = left_alone (answer_of b e l) (went b e l);
  }
