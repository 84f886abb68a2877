-- How long the parts of a state are. Assumes nothing.
use Prim.Native.Nat.{ℕ}
use mathlib.Core.Path.{◌≡◌}
use mathlib.Core.List.{List, [], ◌∷◌, ◌++◌}
use native.Mathlib.Omega.{arith}
use lib.ListN.{length, length-append}
use Rattle.registers.specs.declared.Page.{Page}
use Rattle.registers.specs.declared.Shared.{Shared}
use Rattle.registers.specs.declared.State.{State}
use Rattle.state_bytes.specs.StateBytes.{at_eprom, at_wait, state_size, state_bytes, AllSized}
use Rattle.state_bytes.specs.Parts.{PagePut, SharedPut}

pub page_end : (p : Page) {o x : List ℕ} {n : ℕ} → PagePut p o x n → n ≡ at_eprom
page_end p w = omega (arith, w.wrote.after, length-append p.packet p.timings, w.packet, w.timings)

pub shared_end : (h : Shared) {at : ℕ} {o x : List ℕ} {n : ℕ} → at ≡ at_eprom → SharedPut h at o x n → n ≡ at_wait
shared_end h e w = omega (arith, w.wrote.after, length-append (h.eprom ++ (h.cycles ∷ h.version ∷ [])) h.serial, length-append h.eprom (h.cycles ∷ h.version ∷ []), w.eprom, w.serial)

pub state_size_lem : (s : State) → AllSized s → length (state_bytes s) ≡ state_size
unfolding state_bytes
state_size_lem s w =
    simp length-append (omega (arith, w.registers.packet, w.registers.timings, w.registers.eprom, w.registers.serial, w.held))
