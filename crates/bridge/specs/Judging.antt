-- The judge's call (01, "Grammar"): "The judge takes a start state and bytes." Refusals 1 and 12, then the grammar's verdict. That a wrong
-- one carries the code which the bridge returns there is a theorem of Demands.antt, `CodeForetold`.
use Rattle.std.specs.Prelude.{ℕ, ◌≡◌, true, cond, not, ◌&&◌, List, ◌↔◌, ◌⊎◌, Result, Ok, Err}
use Rattle.registers.specs.Registers.{is_idle}
use Rattle.registers.specs.Ranges.{state_fits, InRange, BetweenCommands}
use Rattle.registers.specs.declared.Wait.TheVariants as v
use Rattle.grammar.specs.Verdict.{judge_of, Says}
use Rattle.grammar.specs.declared.Verdict.{Verdict}
use Rattle.refusals.specs.Refusals.{number_of}
use Rattle.refusals.specs.declared.Refusal.{Refusal}
use Rattle.refusals.specs.declared.Refusal.TheVariants.{Ranges, Waits}
use Rattle.bridge.specs.Answering.{Bridge}
use Rattle.bridge.specs.Views.{context_of}

unfoldable pub judgement_of : Bridge → List ℕ → Result Verdict Refusal
judgement_of b bs =
    cond (state_fits b.state) (cond (is_idle b.state.wait && not b.state.drop) (Ok (judge_of (context_of b.state) bs)) (Err Waits)) (Err Ranges)

-- the number that a call is refused with, 0 where it judged
abbrev pub refused_with : Result Verdict Refusal → ℕ
refused_with (Ok w) = 0
refused_with (Err r) = number_of r

-- THEOREM (proofs/Judges.antt, `judge_call`): the call's answers are 01's
pub record JudgeCall (b : Bridge) (bs : List ℕ) : Type 0 where
  -- between commands the verdict is what 01 says of the bytes
  pub judged : (w : Verdict) → (judgement_of b bs ≡ Ok w) ↔ (BetweenCommands b.state × Says (context_of b.state) bs w)
  -- 1 "the state breaks its ranges"
  pub ranges : (refused_with (judgement_of b bs) ≡ 1) ↔ (¬ InRange b.state)
  -- 12 "judge's start waits for something", and "12 also for a pending drop" (02, Ask 2), where 1 does not apply
  pub waits : (refused_with (judgement_of b bs) ≡ 12) ↔ (InRange b.state × ((¬ (b.state.wait ≡ v.Nothing)) ⊎ (b.state.drop ≡ true)))
