-- The goals that the search leaves.
use borrow.Author.Rules.{rules}
use mathlib.Core.Path.{◌≡◌, refl, sym, ap, ◌∙◌}
use mathlib.Core.List.{◌++◌, append-nil}
use Prim.Native.Nat.{ℕ, ◌+◌, ◌-◌}
use native.Mathlib.Omega.{arith}
use lib.ListN.{take, set, length-set}
use lib.Seq.{take_all}
use Rattle.packet.specs.Packet.{register_bytes, from_held}
use Rattle.packet.proofs.Loads.{load_turn}
use Rattle.packet.proofs.load.Goals as goal

pub loop-i-init : goal.loop-i-init
unfolding from_held
loop-i-init c =
    (refl, refl)

pub loop-i-preserved : goal.loop-i-preserved
unfolding from_held
loop-i-preserved c =
    let held = c.args.held.now in (
      simp length-set (omega arith),
      ap (λ (b : ℕ). take (c.loop-i.i + 1) (set c.loop-i.q c.loop-i.i b) ++ from_held (register_bytes - (c.loop-i.i + 1)) held) c.byte_at.ensures
          ∙ load_turn register_bytes c.loop-i.q held c.loop-i.i (search rules) c.loop-i.invariant.0
          ∙ c.loop-i.invariant.1,
    )

pub returns : goal.returns
unfolding from_held
returns c =
    let held = c.args.held.now in
    let z : register_bytes - c.loop-i.i ≡ 0 = omega arith in
    sym (take_all c.loop-i.i c.loop-i.q (omega arith))
    ∙ sym (append-nil (take c.loop-i.i c.loop-i.q))
    ∙ ap (λ (k : ℕ). take c.loop-i.i c.loop-i.q ++ from_held k held) (sym z)
    ∙ c.loop-i.invariant.1
