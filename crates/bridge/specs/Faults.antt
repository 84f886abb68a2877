-- A line fault among the bytes of a command stream (01, "Registers and common commands"): "A fault returns its code; the byte it
-- came with is lost, any wait stays." What it costs between commands and inside an item is 02's, Ask 2.
use Rattle.std.specs.Prelude.{ℕ, ◌≡◌, List, [], ◌∷◌, Ok}
use Rattle.registers.specs.Registers.{with_page, with_error, fault_code}
use Rattle.registers.specs.Ranges.{InRange, BetweenCommands}
use Rattle.registers.specs.declared.State.{State}
use Rattle.registers.specs.declared.Wait.TheVariants as v
use Rattle.registers.specs.declared.Fault.{Fault}
use Rattle.registers.specs.declared.Event.TheVariants as e
use Rattle.bridge.specs.Answering.{Bridge, Lent, given, acceptance, answer_of}
use Rattle.bridge.specs.Demands.{outcome}
use Rattle.bridge.specs.Views.{context_of}

-- THEOREM (proofs/Faults.antt, `fault_keeps`): after a fault's call, refused or not, the context and the wait are what they were
pub record FaultKeeps (b : Bridge) (f : Fault) (l : Lent) : Type 0 where
  pub context : context_of (answer_of b (e.Fault f) l).answer.bridge.state ≡ context_of b.state
  pub wait : (answer_of b (e.Fault f) l).answer.bridge.state.wait ≡ b.state.wait

-- the state but for ERROR, which holds a code
abbrev pub but_error : State → ℕ → State
but_error s code = with_page s (with_error s.page code)

-- THEOREM (proofs/Faults.antt, `fault_inside`): "Inside an item the rule of 01 stays: that byte is lost, the wait goes on"; no drop is left
abbrev pub FaultInside : Bridge → Fault → Lent → Type 0
FaultInside b f l = InRange b.state → ¬ (b.state.wait ≡ v.Nothing) → outcome b (e.Fault f) l ≡ Ok tt
    → (answer_of b (e.Fault f) l).answer.bridge.state ≡ but_error b.state (fault_code f)

-- A FAULT'S CALL, and one or "several faults in a row", each call taken
pub record FaultCall : Type 0 where
  pub fault : Fault
  pub lent : Lent

abbrev pub faulted : Bridge → FaultCall → Bridge
faulted b c = (answer_of b (e.Fault c.fault) c.lent).answer.bridge

abbrev pub faulted_all : Bridge → FaultCall → List FaultCall → Bridge
faulted_all b c [] = faulted b c
faulted_all b c (d ∷ ds) = faulted_all (faulted b c) d ds

abbrev pub AllTaken : Bridge → FaultCall → List FaultCall → Type 0
AllTaken b c [] = outcome b (e.Fault c.fault) c.lent ≡ Ok tt
AllTaken b c (d ∷ ds) = (outcome b (e.Fault c.fault) c.lent ≡ Ok tt) × AllTaken (faulted b c) d ds

abbrev pub last_code : FaultCall → List FaultCall → ℕ
last_code c [] = fault_code c.fault
last_code c (d ∷ ds) = last_code d ds

-- THEOREM (proofs/Faults.antt, `fault_costs`): after one fault or several between commands and any byte, the state is the one before the
-- first fault but for ERROR, which holds the last fault's code; and the byte's call returns no code, uses no sample, and writes nothing.
-- So they cost exactly one byte.
abbrev pub FaultCosts : Bridge → FaultCall → List FaultCall → ℕ → Lent → Type 0
FaultCosts b c cs x l = BetweenCommands b.state → AllTaken b c cs → outcome (faulted_all b c cs) (e.Byte x) l ≡ Ok tt
    → answer_of (faulted_all b c cs) (e.Byte x) l ≡ given (acceptance (but_error b.state (last_code c cs)) [] 0 0 0) l.actions l.replies
