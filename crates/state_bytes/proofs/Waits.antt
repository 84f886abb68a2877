-- What is waited for and its number determine each other. Assumes nothing.
use Prim.Native.Nat.{ℕ, ◌≤◌}
use mathlib.Core.Path.{◌≡◌, refl, sym, ◌∙◌}
use mathlib.Core.Bool.{Bool, true, false, cond, ◌||◌}
use native.Mathlib.Omega.{arith}
use borrow.Author.Tests.{le-leb, eqb-true}
use lib.Dec.{eqb, leb}
use Rattle.registers.specs.declared.PortRegister.TheVariants.{Ddrb, Portb, Ddrc, Portc, Ddrd, Portd}
use Rattle.registers.specs.declared.Operand.TheVariants.{ToPort, ToCycles, ToI2c, ToConfig, ToSize, ToOneWire, ToOneWireBit, ToOneWireStrong}
use Rattle.registers.specs.declared.Wait.{Wait}
use Rattle.registers.specs.declared.Wait.TheVariants.{Nothing, One, Extended, Packet, Timings}
use Rattle.grammar.proofs.Lookups.{byte_fact}
use Rattle.state_bytes.specs.StateBytes.{wait_code, wait_left, wait_of}

-- the number of a wait is one, and its left is 0 where it has to be
pub record Numbered (w : Wait) : Type 0 where
  pub back : wait_of (wait_code w) (wait_left w) ≡ w
  pub known : leb (wait_code w) 17 ≡ true
  pub left : leb 15 (wait_code w) || eqb (wait_left w) 0 ≡ true

pub wait_numbered : (w : Wait) → Numbered w
wait_numbered Nothing = record { back = refl; known = refl; left = refl }
wait_numbered (One (ToPort Ddrb)) = record { back = refl; known = refl; left = refl }
wait_numbered (One (ToPort Portb)) = record { back = refl; known = refl; left = refl }
wait_numbered (One (ToPort Ddrc)) = record { back = refl; known = refl; left = refl }
wait_numbered (One (ToPort Portc)) = record { back = refl; known = refl; left = refl }
wait_numbered (One (ToPort Ddrd)) = record { back = refl; known = refl; left = refl }
wait_numbered (One (ToPort Portd)) = record { back = refl; known = refl; left = refl }
wait_numbered (One ToCycles) = record { back = refl; known = refl; left = refl }
wait_numbered (One ToI2c) = record { back = refl; known = refl; left = refl }
wait_numbered (One ToConfig) = record { back = refl; known = refl; left = refl }
wait_numbered (One ToSize) = record { back = refl; known = refl; left = refl }
wait_numbered (One ToOneWire) = record { back = refl; known = refl; left = refl }
wait_numbered (One ToOneWireBit) = record { back = refl; known = refl; left = refl }
wait_numbered (One ToOneWireStrong) = record { back = refl; known = refl; left = refl }
wait_numbered Extended = record { back = refl; known = refl; left = refl }
wait_numbered (Packet left true) = record { back = refl; known = refl; left = refl }
wait_numbered (Packet left false) = record { back = refl; known = refl; left = refl }
wait_numbered (Timings left) = record { back = refl; known = refl; left = refl }

-- a fact of every number to 17, computed over all of them
numbers : (f g : ℕ → ℕ) (code : ℕ) → code ≤ 17 → cond (leb code 17) (f code) 0 ≡ cond (leb code 17) (g code) 0 → f code ≡ g code
numbers f g code h e = rw (le-leb code 17 h) at e

pub code_back : (code left : ℕ) → code ≤ 17 → wait_code (wait_of code left) ≡ code
code_back code left h =
    numbers (λ (c : ℕ). wait_code (wait_of c left)) (λ (c : ℕ). c) code h
    (byte_fact (λ (c : ℕ). cond (leb c 17) (wait_code (wait_of c left)) 0) (λ (c : ℕ). cond (leb c 17) c 0) refl code (omega arith))

pub left_back : (code left : ℕ) → code ≤ 17 → leb 15 code || eqb left 0 ≡ true → wait_left (wait_of code left) ≡ left
left_back code left h k =
    numbers (λ (c : ℕ). wait_left (wait_of c left)) (λ (c : ℕ). cond (leb 15 c) left 0) code h
    (byte_fact (λ (c : ℕ). cond (leb c 17) (wait_left (wait_of c left)) 0) (λ (c : ℕ). cond (leb c 17) (cond (leb 15 c) left 0) 0) refl code (omega arith))
    ∙ zero_else (leb 15 code) k
  where
    zero_else : (b : Bool) → b || eqb left 0 ≡ true → cond b left 0 ≡ left
    zero_else true e = refl
    zero_else false e = sym (eqb-true left 0 e)
