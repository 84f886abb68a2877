-- The goals that the search leaves.
use borrow.Author.Rules.{rules}
use native.Mathlib.Omega.{arith}
use Rattle.packet.specs.Register.{byte_bits}
use Rattle.packet.proofs.Bytes.{length_byte}
use Rattle.packet.proofs.Bytes.{byte_at}
use Rattle.i2c_bus.specs.I2c.{i2c_bit}
use Rattle.lines.proofs.Rows.{owed_all, owed_within, owed_fits, owed_turn, owed_none}
use Rattle.i2c_bus.proofs.put_bits.Goals as goal

pub loop-i-init : goal.loop-i-init
loop-i-init c =
    (omega arith, owed_all _ _ _ _)

pub put_actions-at-requires : goal.put_actions-at-requires
put_actions-at-requires c =
    let byte = c.args.byte in
    rw c.bit_row.ensures (owed_fits i2c_bit (byte_bits byte) c.loop-i.invariant.1 (omega (arith, length_byte byte)) (byte_at byte c.loop-i.i (search rules)) c.requires)

pub loop-i-preserved : goal.loop-i-preserved
loop-i-preserved c =
    let byte = c.args.byte in
    let o = owed_turn i2c_bit (byte_bits byte) c.loop-i.invariant.1 (omega (arith, length_byte byte)) (byte_at byte c.loop-i.i (search rules)) (rw c.bit_row.ensures at c.put_actions-at.ensures) in
    (owed_within o c.requires, o)

pub shape_of-out : goal.shape_of-out
shape_of-out c =
    c.loop-i.invariant.1.size

pub returns : goal.returns
returns c =
    owed_none i2c_bit _ c.loop-i.invariant.1 (omega (arith, length_byte c.args.byte))
