-- The slots but the last, and then the last.
use mathlib.Core.Path.{◌≡◌, sym, ap, ◌∙◌}
use mathlib.Core.List.{List, ◌++◌}
use Prim.Native.Nat.{◌-◌, ◌≤◌}
use native.Mathlib.Omega.{arith}
use lib.ListN.{length, get_or, take}
use Rattle.wire.specs.Action.{Action, bytes_of, release}
use Rattle.lines.specs.Lines.{for_each}
use Rattle.one_wire_bus.specs.OneWire.{write_slot, low_first, write_slots}
use Rattle.one_wire_bus.specs.declared.Waits.{Waits}
use Rattle.lines.proofs.Rows.{joined, first_fits, second_within, second_fits, same_written, same_room}
use Rattle.one_wire_bus.proofs.Slots.{low_at}
use Rattle.one_wire_bus.proofs.put_write.Goals as goal
use Rattle.one_wire_bus.proofs.put_write.Goals.{After-write_waits-w}

-- the slots but the last, and the last, with the waits at hand
abbrev first : After-write_waits-w → List Action
first g = for_each (write_slot g.write_waits-w.result release) (take (g.args.n - 1) (low_first g.args.byte))

abbrev last : After-write_waits-w → List Action
last g = write_slot g.write_waits-w.result g.args.fifth (get_or (low_first g.args.byte) (g.args.n - 1) 0)

-- both fit
all_fit : (g : After-write_waits-w) → length (bytes_of (first g ++ last g)) ≤ length g.args.out.now
unfolding write_slots
all_fit g = same_room (ap (λ (w : Waits). bytes_of (write_slots w g.args.n g.args.fifth g.args.byte)) (sym g.write_waits-w.ensures)) g.requires.1

pub put_bits-at-requires : goal.put_bits-at-requires
unfolding write_slots
put_bits-at-requires c =
    let g = (goal.at.put_bits-at-requires c).After-write_waits-w in
    (omega (arith, c.requires.0.0, c.requires.0.1), first_fits (first g) (last g) (all_fit g))

pub slice_bounds-put_actions-count : goal.slice_bounds-put_actions-count
unfolding write_slots
slice_bounds-put_actions-count c =
    let g = (goal.at.slice_bounds-put_actions-count c).After-write_waits-w in
    omega (arith, second_within (first g) (last g) (all_fit g) c.put_bits-at.ensures)

pub slice_bounds-put_actions-start : goal.slice_bounds-put_actions-start
unfolding write_slots
slice_bounds-put_actions-start c =
    let g = (goal.at.slice_bounds-put_actions-start c).After-write_waits-w in
    omega (arith, second_within (first g) (last g) (all_fit g) c.put_bits-at.ensures)

pub slice_bounds-put_actions-end : goal.slice_bounds-put_actions-end
unfolding write_slots
slice_bounds-put_actions-end c =
    let g = (goal.at.slice_bounds-put_actions-end c).After-write_waits-w in
    omega (arith, second_within (first g) (last g) (all_fit g) c.put_bits-at.ensures)

pub put_actions-requires : goal.put_actions-requires
unfolding write_slots
put_actions-requires c =
    let g = (goal.at.put_actions-requires c).After-write_waits-w in
    rw c.write_slot.ensures (second_fits (first g) (last g) (all_fit g) c.put_bits-at.ensures)

pub overflow_add-result : goal.overflow_add-result
unfolding write_slots
overflow_add-result c =
    let g = (goal.at.overflow_add-result c).After-write_waits-w in
    let e = rw c.write_slot.ensures at c.put_actions.ensures in
    omega (arith, second_within (first g) (last g) (all_fit g) c.put_bits-at.ensures, e.after)

pub returns : goal.returns
unfolding write_slots
returns c =
    let g = (goal.at.returns c).After-write_waits-w in
    let n = c.args.n in
    let byte = c.args.byte in
    let fifth = c.args.fifth in
    let e = ap (λ (w : Waits). bytes_of (write_slots w n fifth byte)) (sym c.write_waits-w.ensures) in
    let x : c.write_slot.result ≡ last g = c.write_slot.ensures ∙ ap (write_slot c.write_waits-w.result fifth) (sym (low_at byte (n - 1) (omega (arith, c.requires.0.0, c.requires.0.1)))) in
    same_written e (joined (first g) (last g) c.put_bits-at.ensures (rw x at c.put_actions.ensures))
