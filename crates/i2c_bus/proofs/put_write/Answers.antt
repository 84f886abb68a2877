-- One after the other.
use borrow.Author.Rules.{rules}
use Rattle.packet.specs.Register.{byte_bits}
use Rattle.lines.specs.Lines.{for_each}
use Rattle.i2c_bus.specs.I2c.{i2c_bit, i2c_sampled}
use Rattle.lines.proofs.Rows.{joined}
use Rattle.i2c_bus.proofs.put_write.Goals as goal

pub returns : goal.returns
unfolding for_each byte_bits
returns c =
    joined (for_each i2c_bit (byte_bits c.args.byte)) i2c_sampled c.put_bits-at.ensures (rw c.sampled_row.ensures at c.put_actions.ensures)

pub put_bits-at-requires : goal.put_bits-at-requires
unfolding for_each byte_bits
put_bits-at-requires c = search rules

pub slice_bounds-put_actions-count : goal.slice_bounds-put_actions-count
unfolding for_each byte_bits
slice_bounds-put_actions-count c = search rules

pub slice_bounds-put_actions-start : goal.slice_bounds-put_actions-start
unfolding for_each byte_bits
slice_bounds-put_actions-start c = search rules

pub put_actions-requires : goal.put_actions-requires
unfolding for_each byte_bits
put_actions-requires c = rw c.sampled_row.ensures (search rules)

pub overflow_add-result : goal.overflow_add-result
unfolding for_each byte_bits
overflow_add-result c =
    let e = rw c.sampled_row.ensures at c.put_actions.ensures in
    search (rules, e)
