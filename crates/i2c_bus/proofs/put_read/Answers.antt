-- One after the other.
use borrow.Author.Rules.{rules}
use Rattle.packet.specs.Register.{zeros}
use Rattle.lines.specs.Lines.{for_each}
use Rattle.i2c_bus.specs.I2c.{i2c_bit, i2c_sampled}
use Rattle.lines.proofs.Rows.{joined}
use Rattle.i2c_bus.proofs.put_read.Goals as goal

pub returns : goal.returns
unfolding for_each
returns c =
    joined (for_each (λ _. i2c_sampled) (zeros 8)) (i2c_bit c.args.answer) (rw c.sampled_row.ensures at c.put_repeated-at.ensures) (rw c.bit_row.ensures at c.put_actions.ensures)

pub put_repeated-at-requires : goal.put_repeated-at-requires
unfolding for_each
put_repeated-at-requires c = rw c.sampled_row.ensures (search rules)

pub slice_bounds-put_actions-count : goal.slice_bounds-put_actions-count
unfolding for_each
slice_bounds-put_actions-count c =
    let e = rw c.sampled_row.ensures at c.put_repeated-at.ensures in
    search (rules, e)

pub slice_bounds-put_actions-start : goal.slice_bounds-put_actions-start
unfolding for_each
slice_bounds-put_actions-start c =
    let e = rw c.sampled_row.ensures at c.put_repeated-at.ensures in
    search (rules, e)

pub put_actions-requires : goal.put_actions-requires
unfolding for_each
put_actions-requires c =
    let e = rw c.sampled_row.ensures at c.put_repeated-at.ensures in
    rw c.bit_row.ensures (search (rules, e))

pub overflow_add-result : goal.overflow_add-result
unfolding for_each
overflow_add-result c =
    let e = rw c.sampled_row.ensures at c.put_repeated-at.ensures in
    let f = rw c.bit_row.ensures at c.put_actions.ensures in
    search (rules, e, f)
