-- THEOREM: a byte's effect agrees with the grammar's scanner, seen through the view of the state. Assumes nothing.
use Prim.Native.Nat.{ℕ, ◌<◌}
use mathlib.Core.Path.{◌≡◌, refl, sym, ap, ◌∙◌, subst}
use mathlib.Core.Bool.{Bool, true, false, cond}
use mathlib.Core.List.{List}
use Rattle.grammar.specs.Scanner.{Opening, opened, scan_at, scan}
use Rattle.grammar.proofs.Follows.{Agree}
use Rattle.registers.specs.Registers.{with_drop}
use Rattle.registers.specs.Ranges.{InRange}
use Rattle.registers.specs.declared.Page.{Page}
use Rattle.registers.specs.declared.Shared.{Shared}
use Rattle.registers.specs.declared.State.{State}
use Rattle.registers.specs.declared.Wait.{Wait}
use Rattle.registers.specs.declared.Wait.TheVariants as v
use Rattle.registers.specs.declared.Event.TheVariants as e
use Rattle.registers.proofs.InRange.{packet_left, timings_left}
use Rattle.decisions.specs.Said.{codes_of}
use Rattle.commands.specs.Commands.{command_of, extended_command_of}
use Rattle.decisions.specs.Decisions.{dropped}
use Rattle.decisions.specs.declared.Decision.{Decision}
use Rattle.decisions.specs.Effects.{carried_out}
use Rattle.decisions.specs.Events.{command_decision, byte_decision, effect_of}
use Rattle.decisions.proofs.Changes.{drop_same}
use Rattle.bridge.specs.Views.{context_of}
use Rattle.bridge.proofs.View.{place_of, view_of}
use Rattle.bridge.proofs.Openings.{opening_is, extension_is, between_is, extended_is}
use Rattle.bridge.proofs.Decisions.{DecisionAgrees, carried_agrees}
use Rattle.bridge.proofs.Between.{command_agrees}
use Rattle.bridge.proofs.Inside.{after_agrees, operand_agrees, packet_agrees, timings_agree}

module _ (page : Page) (shared : Shared) (held : List ℕ) (b : ℕ) (h : b < 256) where
  -- the state with a wait, so that the wait can be taken apart
  abbrev at : Wait → State
  at a = record { page = page; shared = shared; wait = a; held = held; drop = false }

  decision_agrees : (a : Wait) → InRange (at a) → DecisionAgrees (at a) (scan_at (place_of a) (context_of (at a)) b) (byte_decision (at a) a b)
  decision_agrees v.Nothing n =
      let s = at v.Nothing in
      subst (λ (o : Opening). DecisionAgrees s (opened o (context_of s) b) (command_decision s (command_of b))) (sym (opening_is b h)) (command_agrees page shared held b n.page.one_interface (command_of b) (between_is b))
  decision_agrees (v.One a) n = operand_agrees (at (v.One a)) b a
  decision_agrees v.Extended n =
      let s = at v.Extended in
      subst (λ (o : Opening). DecisionAgrees s (opened o (context_of s) b) (command_decision s (extended_command_of b))) (sym (extension_is b h)) (after_agrees s b (extended_command_of b) (extended_is b))
  decision_agrees (v.Packet left exchange) n =
      let s = at (v.Packet left exchange) in
      packet_agrees s b left exchange (packet_left s left exchange n refl).0
  decision_agrees (v.Timings left) n =
      let s = at (v.Timings left) in
      timings_agree s b left (timings_left s left n refl).0

-- where no drop is pending
pub byte_agrees : (s : State) (b : ℕ) (ss : List ℕ) (m : ℕ) → b < 256 → InRange s → s.drop ≡ false
    → Agree (scan (view_of s) b) (codes_of (effect_of s (e.Byte b) ss m).said) (view_of s) (view_of (effect_of s (e.Byte b) ss m).state)
unfolding effect_of
byte_agrees s b ss m h n u =
    let t = with_drop s false in
    let d = byte_decision t s.wait b in
    let a : Agree (scan (view_of s) b) (codes_of (carried_out t d ss m).said) (view_of s) (view_of (carried_out t d ss m).state) =
    carried_agrees t (scan (view_of s) b) d ss m (decision_agrees s.page s.shared s.held b h s.wait (subst InRange (sym (drop_same s u)) n)) in
    subst (λ (x : Decision). Agree (scan (view_of s) b) (codes_of (carried_out t x ss m).said) (view_of s) (view_of (carried_out t x ss m).state))
    (ap (λ (r : State). byte_decision r s.wait b) (drop_same s u) ∙ ap (λ (p : Bool). cond p dropped (byte_decision s s.wait b)) (sym u)) a
