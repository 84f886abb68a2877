-- The goals that the search leaves.
use borrow.Author.Rules.{rules}
use mathlib.Core.Path.{◌≡◌, refl, ◌∙◌}
use Prim.Native.Nat.{◌-◌}
use native.Mathlib.Omega.{arith}
use lib.ListN.{length, length-set}
use Rattle.packet.specs.Register.{bits, zeros}
use Rattle.packet.specs.Packet.{width, register_bytes, kept, cleared}
use Rattle.packet.proofs.Bytes.{length_register}
use Rattle.packet.proofs.Filled.{kept_at, fill_start, fill_turn}
use Rattle.packet.proofs.clear.Goals as goal

pub loop-i-init : goal.loop-i-init
loop-i-init c =
    (search rules, omega arith, fill_start register_bytes (zeros register_bytes) (kept width c.args.n (bits c.args.r)) refl)

pub loop-i-preserved : goal.loop-i-preserved
loop-i-preserved c =
    let r = c.args.r in
    let i = c.loop-i.i in
    let t = cleared width c.args.n r in
    let l : length t ≡ register_bytes = length_register register_bytes (kept width c.args.n (bits r)) in (
      simp length-set (omega arith),
      omega arith,
      fill_turn c.loop-i.q t i _ (search rules) (omega arith) (omega arith) (c.low_bits.ensures ∙ kept_at register_bytes c.args.n (i - 1) c.loop-i.left r c.well_formed.0.1.0.1 (omega arith) (omega arith)) c.loop-i.invariant.2,
    )

pub returns : goal.returns
returns c =
    let z : c.loop-i.i ≡ 0 = omega arith in
    rw z at c.loop-i.invariant.2
