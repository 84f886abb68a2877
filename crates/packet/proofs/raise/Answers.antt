-- The goals that the search leaves.
use borrow.Author.Rules.{rules}
use mathlib.Core.Path.{◌≡◌, refl, sym, ap, ◌∙◌}
use Prim.Native.Nat.{ℕ, suc, ◌+◌, ◌-◌, ◌/◌}
use native.Mathlib.Omega.{arith}
use lib.ListN.{length, length-set, get_or-eq_default}
use Rattle.packet.specs.Register.{bits, zeros}
use Rattle.packet.specs.Packet.{width, register_bytes, moved_up}
use Rattle.packet.specs.Alignment.{bits_up}
use Rattle.packet.proofs.Bytes.{length_register, register_bits}
use Rattle.packet.proofs.Filled.{fill_start, fill_turn}
use Rattle.packet.proofs.Moves.{none_up, byte_up}
use Rattle.packet.proofs.raise.Goals as goal

pub returns-then-n-ge-WIDTH : goal.returns-then-n-ge-WIDTH
returns-then-n-ge-WIDTH c =
    let z : width - c.args.n ≡ 0 = omega arith in
    sym (ap (λ (m : ℕ). bits_up register_bytes m c.args.r) z ∙ none_up register_bytes c.args.r (register_bits register_bytes _ _ c.well_formed.0))

pub loop-i-init : goal.loop-i-init
loop-i-init c =
    let r = c.args.r in
    (refl, omega arith, sym (get_or-eq_default r 0 (omega (arith, c.well_formed.0.1.0.1))), fill_start register_bytes (zeros register_bytes) (moved_up (width - c.args.n) (bits r)) refl)

pub overflow_add-i : goal.overflow_add-i
overflow_add-i c =
    omega arith

pub loop-i-preserved : goal.loop-i-preserved
loop-i-preserved c =
    let r = c.args.r in
    let i = c.loop-i.i in
    let up = width - c.args.n in
    let l : length (bits_up register_bytes up r) ≡ register_bytes = length_register register_bytes (moved_up up (bits r)) in
    let next : i + up / 8 ≡ suc (i - 1 + up / 8) = omega arith in (
      simp length-set (omega arith),
      omega arith,
      c.byte_at-upper.ensures,
      fill_turn c.loop-i.q (bits_up register_bytes up r) i _ (search rules) (omega arith) (omega arith)
          (byte_up register_bytes up (i - 1) r c.well_formed.0.1.0.1 (omega arith) (omega arith) (search rules) c.byte_at-upper.ensures (rw next at c.loop-i.invariant.2))
          c.loop-i.invariant.3,
    )

pub returns : goal.returns
returns c =
    let z : c.loop-i.i ≡ 0 = omega arith in
    rw z at c.loop-i.invariant.3
