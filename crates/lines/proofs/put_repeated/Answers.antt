-- The goals that the search leaves.
use mathlib.Core.Path.{refl}
use Prim.Native.Nat.{ℕ}
use native.Mathlib.Omega.{arith}
use Rattle.std.proofs.lemmas.List.{length-replicate}
use Rattle.packet.specs.Register.{zeros}
use Rattle.lines.proofs.Rows.{owed_all, owed_within, owed_fits, owed_turn, owed_none}
use Rattle.lines.proofs.put_repeated.Invariants.{same}
use Rattle.lines.proofs.put_repeated.Goals as goal

pub loop-init : goal.loop-init
loop-init g c =
    (omega arith, owed_all _ _ _ _)

pub put_actions-at-requires : goal.put_actions-at-requires
put_actions-at-requires g c =
    owed_fits (same c.args.row.now) (zeros c.args.times) c.loop.invariant.1 (omega (arith, length-replicate {A = ℕ} c.args.times 0)) refl c.requires

pub loop-preserved : goal.loop-preserved
loop-preserved g c =
    let o = owed_turn (same c.args.row.now) (zeros c.args.times) c.loop.invariant.1 (omega (arith, length-replicate {A = ℕ} c.args.times 0)) refl c.put_actions-at.ensures in
    (owed_within o c.requires, o)

pub overflow_add-at : goal.overflow_add-at
overflow_add-at g c =
    let o = owed_turn (same c.args.row.now) (zeros c.args.times) c.loop.invariant.1 (omega (arith, length-replicate {A = ℕ} c.args.times 0)) refl c.put_actions-at.ensures in
    omega (arith, owed_within o c.requires, o.size)

pub returns : goal.returns
returns g c =
    owed_none (same c.args.row.now) _ c.loop.invariant.1 (omega (arith, length-replicate {A = ℕ} c.args.times 0))
