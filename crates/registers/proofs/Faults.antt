-- A fault and its code. Assumes nothing.
use Prim.Native.Nat.{ℕ}
use mathlib.Core.Path.{◌≡◌, refl, ap, subst, ◌∙◌}
use borrow.Author.Tests.{eqb-true}
use lib.Dec.{eqb}
use Rattle.wire.proofs.Choices.{by_cond}
use Rattle.std.specs.Prelude.{Result, Ok, Err}
use Rattle.registers.specs.Registers.{Fault, NoFault, Frame, Overrun, Parity, fault_code, fault_of, FaultBack}

-- what is given is a fault of that code
abbrev Right : ℕ → Result Fault NoFault → Type 0
Right code (Ok f) = code ≡ fault_code f
Right code (Err e) = Unit {0}

right : (code : ℕ) → Right code (fault_of code)
right code =
    by_cond (Right code) (eqb code 0x81) (λ t. eqb-true code 0x81 t)
    (λ _. by_cond (Right code) (eqb code 0x82) (λ t. eqb-true code 0x82 t)
    (λ _. by_cond (Right code) (eqb code 0x83) (λ t. eqb-true code 0x83 t) (λ _. tt)))

code_back : (f : Fault) → fault_of (fault_code f) ≡ Ok f
code_back Frame = refl
code_back Overrun = refl
code_back Parity = refl

pub fault_back : (code : ℕ) (f : Fault) → FaultBack code f
fault_back code f = (λ e. subst (Right code) e (right code), λ e. ap fault_of e ∙ code_back f)
