-- Each action takes the four bytes after those before it.
use mathlib.Core.Path.{refl}
use native.Mathlib.Omega.{arith}
use Rattle.wire.proofs.Actions.{bytes_length, row_turn}
use Rattle.wire.proofs.Buffers.{written_none, room}
use Rattle.wire.proofs.put_actions.Goals as goal

pub loop-a-init : goal.loop-a-init
loop-a-init c =
    (refl, omega arith, written_none _ _)

pub put_action-at-requires : goal.put_action-at-requires
put_action-at-requires c =
    room c.loop-a.out c.loop-a.at 4 (omega (arith, bytes_length c.args.row.now, c.requires))

pub loop-a-preserved : goal.loop-a-preserved
loop-a-preserved c =
    (omega (arith, c.put_action-at.ensures.after), omega (arith, bytes_length c.args.row.now, c.requires, c.put_action-at.ensures.after), row_turn c.args.row.now c.loop-a.a-index _ c.loop-a-test.true c.loop-a.invariant.2 c.put_action-at.ensures)
