-- The judge's call answers as 01 says. Assumes nothing.
use Prim.Native.Nat.{ℕ}
use mathlib.Core.Path.{◌≡◌, refl, sym, ap, ◌∙◌}
use mathlib.Core.Bool.{Bool, true, false, cond, not, ◌&&◌, false≢true}
use mathlib.Core.List.{List}
use mathlib.Core.Logic.{◌↔◌, ◌⊎◌, inl, inr}
use native.Mathlib.Omega.{arith}
use Rattle.std.specs.Prelude.{Result, Ok, Err}
use Rattle.codes.proofs.Both.{both_left, both_right}
use Rattle.registers.specs.Registers.{is_idle}
use Rattle.registers.specs.Ranges.{state_fits, InRange, BetweenCommands}
use Rattle.registers.specs.declared.Wait.{Wait}
use Rattle.registers.specs.declared.Wait.TheVariants as v
use Rattle.registers.proofs.InRange.{idle_is, range_test}
use Rattle.grammar.specs.Verdict.{judge_of, Says}
use Rattle.grammar.specs.declared.Verdict.{Verdict}
use Rattle.grammar.proofs.Verdicts.{judge_right}
use Rattle.refusals.specs.declared.Refusal.{Refusal}
use Rattle.refusals.specs.declared.Refusal.TheVariants.{Ranges, Waits}
use Rattle.bridge.specs.Answering.{Bridge}
use Rattle.bridge.specs.Views.{context_of}
use Rattle.bridge.specs.Judging.{judgement_of, refused_with, JudgeCall}

-- what the test for 12 says: nothing waited for and no drop, or one of them
test_true : (w : Wait) (pending : Bool) → is_idle w && not pending ≡ true → (w ≡ v.Nothing) × (pending ≡ false)
test_true w true e = absurd (false≢true (both_right (is_idle w) false e))
test_true w false e = (idle_is w (both_left (is_idle w) true e), refl)

test_false : (w : Wait) (pending : Bool) → is_idle w && not pending ≡ false → (¬ (w ≡ v.Nothing)) ⊎ (pending ≡ true)
test_false w true e = inr refl
test_false w false e = inl (λ q. false≢true (sym e ∙ ap (λ (t : Wait). is_idle t && true) q))

module _ (b : Bridge) (bs : List ℕ) where
  -- which of the three it was
  answer : Bool → Bool → Result Verdict Refusal
  answer fits idle = cond fits (cond idle (Ok (judge_of (context_of b.state) bs)) (Err Waits)) (Err Ranges)

  abbrev Busy : Type 0
  Busy = (¬ (b.state.wait ≡ v.Nothing)) ⊎ (b.state.drop ≡ true)

  busy_not : Busy → ¬ BetweenCommands b.state
  busy_not (inl f) c = f c.waits_for_nothing
  busy_not (inr p) c = false≢true (sym c.no_drop ∙ p)

  Right : Result Verdict Refusal → Type 0
  Right j =
      ((w : Verdict) → (j ≡ Ok w) ↔ (BetweenCommands b.state × Says (context_of b.state) bs w))
      × ((refused_with j ≡ 1) ↔ (¬ InRange b.state)) × ((refused_with j ≡ 12) ↔ (InRange b.state × Busy))

  right : (t u : Bool) → state_fits b.state ≡ t → is_idle b.state.wait && not b.state.drop ≡ u → Right (answer t u)
  unfolding answer Right
  right true true p q =
      let n = (range_test b.state).0 p in
      let i = test_true b.state.wait b.state.drop q in
      let c : BetweenCommands b.state = record { in_range = n; waits_for_nothing = i.0; no_drop = i.1 } in (
        λ w. (
          λ z. (c, ((judge_right (context_of b.state) bs).answers w).0 (let x : judge_of (context_of b.state) bs ≡ w = cc in x)),
          λ s. ap Ok (((judge_right (context_of b.state) bs).answers w).1 s.1),
        ),
        (λ z. absurd (omega (arith, z)), λ m. absurd (m n)),
        (λ z. absurd (omega (arith, z)), λ m. absurd (busy_not m.1 c)),
      )
  right true false p q =
      let n = (range_test b.state).0 p in
      let busy : Busy = test_false b.state.wait b.state.drop q in (
        λ w. (λ z. let x : ◌≡◌ {A = ℕ} 0 1 = cc in absurd (omega arith), λ s. absurd (busy_not busy s.0)),
        (λ z. absurd (omega (arith, z)), λ m. absurd (m n)),
        (λ z. (n, busy), λ m. refl),
      )
  right false u p q =
      let broken : ¬ InRange b.state = λ n. false≢true (sym p ∙ (range_test b.state).1 n) in (
        λ w. (λ z. let x : ◌≡◌ {A = ℕ} 0 1 = cc in absurd (omega arith), λ s. absurd (broken s.0.in_range)),
        (λ z. broken, λ m. refl),
        (λ z. absurd (omega (arith, z)), λ m. absurd (broken m.0)),
      )

  pub judge_call : JudgeCall b bs
  unfolding judgement_of answer Right
  judge_call = let r = right (state_fits b.state) (is_idle b.state.wait && not b.state.drop) refl refl in record { judged = r.0; ranges = r.1; waits = r.2 }
