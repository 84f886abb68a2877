-- What the functions of include/bridge.h give: a number, and everything behind their pointers. "0 says that a call was taken."
use Rattle.std.specs.Prelude.{ℕ, cond, List, eqb, length, Result, Ok, Err}
use Rattle.std.specs.Result.{result_map_both}
use Rattle.wire.specs.Buffer.{fits_in}
use Rattle.registers.specs.Ranges.{state_fits}
use Rattle.registers.specs.declared.State.{State}
use Rattle.registers.specs.Registers.{fault_of}
use Rattle.registers.specs.declared.Event.{Event}
use Rattle.registers.specs.declared.Event.TheVariants as e
use Rattle.grammar.specs.declared.Verdict.{Verdict}
use Rattle.grammar.specs.declared.Verdict.TheVariants as v
use Rattle.bridge.specs.Answering.{Lent, Given, answer_of}
use Rattle.bridge.specs.declared.Bridge.{Bridge}
use Rattle.bridge.specs.Judging.{judgement_of}
use Rattle.switch_on.specs.Start.{starting}
use Rattle.switch_on.specs.SwitchOn.{Switched, switch_of}
use Rattle.switch_on.specs.declared.Device.{Device}
use Rattle.records.specs.Records as r
use Rattle.state_bytes.specs.StateBytes.{state_size, state_bytes, state_in, is_state}
use Rattle.refusals.specs.Refusals.{number_of}
use Rattle.refusals.specs.declared.Refusal.{Refusal}
use Rattle.refusals.specs.declared.Refusal.TheVariants.{Ranges, Samples, Actions, Replies, Kind, FaultBody}

-- the bridge whose state these bytes are
abbrev pub bridge_in : List ℕ → Bridge
bridge_in state = record { state = state_in state }

-- .. where they are a state's: "1 if `state` is no state"
abbrev pub bridge_asked : List ℕ → Result Bridge Refusal
bridge_asked state = cond (is_state state) (Ok (bridge_in state)) (Err Ranges)

-- BRIDGE_FACTORY_START: "The state that every session starts with goes to `state`. 1 if this has another length."
pub record StartCall : Type 0 where
  pub number : ℕ
  pub state : List ℕ

abbrev pub start_call : ℕ → List ℕ → StartCall
start_call n state = record { number = n; state = state }

unfoldable pub start_gives : List ℕ → StartCall
start_gives state = cond (eqb (length state) state_size) (start_call 0 (state_bytes starting.state)) (start_call (number_of Ranges) state)

-- BRIDGE_STEP
pub record StepCall : Type 0 where
  pub number : ℕ
  pub state : List ℕ
  pub actions : List ℕ
  pub replies : List ℕ
  pub samples_used : ℕ
  pub reply_count : ℕ
  pub action_count : ℕ

abbrev pub step_call : ℕ → List ℕ → List ℕ → List ℕ → ℕ → ℕ → ℕ → StepCall
step_call n state as' rs used sent acted = record { number = n; state = state; actions = as'; replies = rs; samples_used = used; reply_count = sent; action_count = acted }

-- "a received byte (kind BRIDGE_BYTE, the byte), or a line fault (BRIDGE_FAULT, 81 frame, 82 overrun, 83 parity, hex)"; "8 for another
-- kind, 9 for another fault"
abbrev pub fault_asked : ℕ → Result Event Refusal
fault_asked value = result_map_both e.Fault (λ _. FaultBody) (fault_of value)

abbrev pub event_asked : ℕ → ℕ → Result Event Refusal
event_asked kind value = cond (eqb kind 1) (Ok (e.Byte value)) (cond (eqb kind 2) (fault_asked value) (Err Kind))

-- "A refused call changes no byte behind any pointer, but for the counts, which are 0"
abbrev pub step_refused : ℕ → List ℕ → Lent → StepCall
step_refused n state l = step_call n state l.actions l.replies 0 0 0

abbrev pub outcome_number : Result (Unit {0}) Refusal → ℕ
outcome_number (Ok u) = 0
outcome_number (Err why) = number_of why

-- "Taken, the new state is in `state`"
abbrev pub state_after : Result (Unit {0}) Refusal → State → List ℕ → List ℕ
state_after (Ok u) s state = state_bytes s
state_after (Err why) s state = state

abbrev pub step_answered : List ℕ → Given → StepCall
step_answered state g =
    step_call (outcome_number g.answer.outcome) (state_after g.answer.outcome g.answer.bridge.state state) g.actions g.replies g.answer.samples g.answer.replies g.answer.actions

-- a call without an event: "the lowest number that applies", so the state and the marks are looked at before 8 and 9
abbrev pub without_event : State → Refusal → ℕ → ℕ → ℕ → ℕ → ℕ → ℕ → Refusal
without_event s reason samples sampled actions acted replies replied =
    cond (state_fits s) (cond (fits_in samples sampled 0) (cond (fits_in actions acted 0) (cond (fits_in replies replied 0) reason Replies) Actions) Samples) Ranges

abbrev pub step_asked : List ℕ → Lent → Result Event Refusal → StepCall
step_asked state l (Ok e) = step_answered state (answer_of (bridge_in state) e l)
step_asked state l (Err why) = step_refused (number_of (without_event (state_in state) why (length l.samples) l.sampled (length l.actions) l.acted (length l.replies) l.replied)) state l

unfoldable pub step_gives : List ℕ → ℕ → ℕ → Lent → StepCall
step_gives state kind value l = cond (is_state state) (step_asked state l (event_asked kind value)) (step_refused (number_of Ranges) state l)

-- BRIDGE_JUDGE: "the verdict, and with BRIDGE_WRONG the place and the code that bridge_step would return there .., else 0 in both";
-- refused, "verdict, place and code then stay as they were"
pub record JudgeAnswer : Type 0 where
  pub number : ℕ
  pub verdict : ℕ
  pub place : ℕ
  pub code : ℕ

abbrev pub judge_answer : ℕ → ℕ → ℕ → ℕ → JudgeAnswer
judge_answer n verdict place code = record { number = n; verdict = verdict; place = place; code = code }

abbrev pub verdict_number : Verdict → ℕ
verdict_number v.Whole = 0
verdict_number v.Open = 1
verdict_number (v.Wrong k w) = 2

abbrev pub place_of : Verdict → ℕ
place_of v.Whole = 0
place_of v.Open = 0
place_of (v.Wrong k w) = k

abbrev pub code_in : Verdict → ℕ
code_in v.Whole = 0
code_in v.Open = 0
code_in (v.Wrong k w) = w

abbrev pub judge_answered : ℕ → ℕ → ℕ → Result Verdict Refusal → JudgeAnswer
judge_answered verdict place code (Ok w) = judge_answer 0 (verdict_number w) (place_of w) (code_in w)
judge_answered verdict place code (Err why) = judge_answer (number_of why) verdict place code

abbrev pub judge_asked : List ℕ → List ℕ → Result Verdict Refusal
judge_asked state bytes = cond (is_state state) (judgement_of (bridge_in state) bytes) (Err Ranges)

unfoldable pub judge_gives : List ℕ → List ℕ → ℕ → ℕ → ℕ → JudgeAnswer
judge_gives state bytes verdict place code = judge_answered verdict place code (judge_asked state bytes)

-- BRIDGE_SWITCH_ON: "the state goes to `state`, the actions to the buffer from the mark on. .. 1 if `state` has another length."
pub record SwitchCall : Type 0 where
  pub number : ℕ
  pub state : List ℕ
  pub actions : List ℕ
  pub action_count : ℕ

abbrev pub switch_call : ℕ → List ℕ → List ℕ → ℕ → SwitchCall
switch_call n state as' acted = record { number = n; state = state; actions = as'; action_count = acted }

abbrev pub device_of : ℕ → ℕ → ℕ → Device
device_of cycles version serial = record { cycles = cycles; version = version; serial = r.word32 serial }

abbrev pub switch_answered : Switched → SwitchCall
switch_answered x = switch_call (outcome_number x.answer.outcome) (state_bytes x.answer.bridge.state) x.buffer x.answer.actions

unfoldable pub switch_gives : List ℕ → List ℕ → Device → List ℕ → List ℕ → ℕ → SwitchCall
switch_gives stored factory d state buffer mark =
    cond (eqb (length state) state_size) (switch_answered (switch_of stored factory d buffer mark)) (switch_call (number_of Ranges) state buffer 0)
