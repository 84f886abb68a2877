-- The goals that the search leaves.
use borrow.Author.Rules.{rules}
use native.Mathlib.Omega.{arith}
use lib.ListN.{take}
use Rattle.one_wire_bus.specs.OneWire.{low_first}
use Rattle.lines.proofs.Rows.{owed_all, owed_within, owed_fits, owed_turn, owed_none}
use Rattle.one_wire_bus.proofs.Slots.{low_taken, length_low}
use Rattle.one_wire_bus.proofs.put_bits.Invariants.{row}
use Rattle.one_wire_bus.proofs.put_bits.Goals as goal

pub loop-i-init : goal.loop-i-init
loop-i-init c =
    (omega arith, owed_all _ _ _ _)

pub put_actions-at-requires : goal.put_actions-at-requires
put_actions-at-requires c =
    let n = c.args.n in
    let byte = c.args.byte in
    rw c.write_slot.ensures (owed_fits (row c.args.w) (take n (low_first byte)) c.loop-i.invariant.1 (omega (arith, length_low n byte (omega (arith, c.requires.0)))) (low_taken n byte c.loop-i.i (search rules) (omega (arith, c.requires.0))) c.requires.1)

pub loop-i-preserved : goal.loop-i-preserved
loop-i-preserved c =
    let n = c.args.n in
    let byte = c.args.byte in
    let o = owed_turn (row c.args.w) (take n (low_first byte)) c.loop-i.invariant.1 (omega (arith, length_low n byte (omega (arith, c.requires.0)))) (low_taken n byte c.loop-i.i (search rules) (omega (arith, c.requires.0))) (rw c.write_slot.ensures at c.put_actions-at.ensures) in
    (owed_within o c.requires.1, o)

pub shape_of-out : goal.shape_of-out
shape_of-out c =
    c.loop-i.invariant.1.size

pub returns : goal.returns
returns c =
    owed_none (row c.args.w) _ c.loop-i.invariant.1 (omega (arith, length_low c.args.n c.args.byte (omega (arith, c.requires.0))))
