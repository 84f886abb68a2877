-- The goals that the search leaves.
use native.Mathlib.Omega.{arith}
use lib.ListN.{length-take, length-drop}
use Rattle.session.proofs.Going.{same, going_first, more, roomy, room_written, room_steps, going_step, runs_over, runs_full}
use Rattle.session.proofs.replay.go_on.Goals as goal

pub loop-made-init : goal.loop-made-init
loop-made-init c =
    let a = c.args in going_first a.budget a.session.now a.c a.out.now

pub overflow_sub-out : goal.overflow_sub-out
overflow_sub-out c =
    omega (arith, c.loop-made.invariant.within, same c.loop-made.invariant)

pub shape_of-out-then-done : goal.shape_of-out-then-done
shape_of-out-then-done c =
    same c.loop-made.invariant

pub returns-then-done : goal.returns-then-done
returns-then-done c =
    let a = c.args in runs_over a.budget a.session.now a.c a.out.now c.loop-made.invariant c.if-done.true

pub overflow_sub-budget : goal.overflow_sub-budget
overflow_sub-budget c =
    omega (arith, c.loop-made.invariant.few)

pub slice_bounds-step-count : goal.slice_bounds-step-count
slice_bounds-step-count c =
    let l = c.loop-made in omega (arith, l.invariant.within, same l.invariant)

pub slice_bounds-step-start : goal.slice_bounds-step-start
slice_bounds-step-start c =
    let l = c.loop-made in omega (arith, l.invariant.within, same l.invariant)

pub step-r-requires : goal.step-r-requires
step-r-requires c =
    let a = c.args in
    let l = c.loop-made in
    (c.if-done.false, omega (arith, more a.budget a.session.now a.c a.out.now l.invariant c.loop-made-test.true), simp (length-take, length-drop) (omega (arith, roomy a.budget a.session.now a.c a.out.now l.invariant c.loop-made-test.true)))

pub overflow_add-written : goal.overflow_add-written
overflow_add-written c =
    let a = c.args in record { fits = omega (arith, room_written a.budget a.session.now a.c a.out.now c.loop-made.invariant c.step-r.ensures, c.well_formed) }

pub overflow_add-made : goal.overflow_add-made
overflow_add-made c =
    let a = c.args in record { fits = omega (arith, room_steps a.budget a.session.now a.c a.out.now c.loop-made.invariant c.step-r.ensures, c.well_formed) }

pub loop-made-smaller : goal.loop-made-smaller
loop-made-smaller c =
    let a = c.args in omega (arith, c.step-r.ensures.some, c.step-r.ensures.few)

pub loop-made-preserved : goal.loop-made-preserved
loop-made-preserved c =
    let a = c.args in going_step a.budget a.session.now a.c a.out.now c.loop-made.invariant c.step-r.ensures

pub shape_of-out : goal.shape_of-out
shape_of-out c =
    same c.loop-made.invariant

pub returns : goal.returns
returns c =
    let a = c.args in runs_full a.budget a.session.now a.c a.out.now c.loop-made.invariant c.loop-made-test.false
