-- The body's events, and the cursor after them or the refusal's record.
use native.Mathlib.Omega.{arith}
use lib.ListN.{length-take, length-drop}
use Rattle.session.proofs.Playing.{place_fits, sample_fits, refusal_fits, read_fits, refused_within, played_on, played_refused}
use Rattle.session.proofs.steps.play.Goals as goal

pub slice_bounds-put_refusal-count : goal.slice_bounds-put_refusal-count
slice_bounds-put_refusal-count c =
    let u = c.run_events-r.ensures in omega (arith, u.within, u.same)

pub slice_bounds-put_refusal-start : goal.slice_bounds-put_refusal-start
slice_bounds-put_refusal-start c =
    let u = c.run_events-r.ensures in omega (arith, u.within, u.same)

pub overflow_add-start : goal.overflow_add-start
overflow_add-start c =
    let a = c.args in
    record { fits = place_fits a.budget a.session.now a.c a.received a.start a.end a.out.now _ _ c.requires.0 c.requires.1 (rw c.lent.ensures at c.run_events-r.ensures) (omega (arith, c.well_formed)) }

pub put_refusal-m-requires : goal.put_refusal-m-requires
put_refusal-m-requires c =
    let a = c.args in
    simp (length-take, length-drop) (omega (arith, refusal_fits a.budget a.session.now a.c a.received a.start a.end a.out.now _ _ c.requires.0 c.requires.1 (rw c.lent.ensures at c.run_events-r.ensures) _ c.in-Err.is))

pub overflow_add-result : goal.overflow_add-result
overflow_add-result c =
    let a = c.args in
    record { fits = omega (arith, refused_within a.budget a.session.now a.c a.received a.start a.end a.out.now _ _ c.requires.0 c.requires.1 (rw c.lent.ensures at c.run_events-r.ensures) _ c.in-Err.is _ _ c.put_refusal-m.ensures, c.well_formed) }

pub overflow_add-result-in-Err : goal.overflow_add-result-in-Err
overflow_add-result-in-Err c =
    let a = c.args in
    record { fits = read_fits a.budget a.session.now a.c a.received a.start a.end a.out.now _ _ c.requires.0 c.requires.1 (rw c.lent.ensures at c.run_events-r.ensures) }

pub returns-in-Err : goal.returns-in-Err
returns-in-Err c =
    let a = c.args in
    rw c.ended-cursor.ensures (played_refused a.budget a.session.now a.c a.received a.start a.end a.out.now _ _ c.requires.0 c.requires.1 (rw c.lent.ensures at c.run_events-r.ensures) _ c.in-Err.is _ _ c.put_refusal-m.ensures)

pub overflow_add-cursor : goal.overflow_add-cursor
overflow_add-cursor c =
    let a = c.args in
    record { fits = place_fits a.budget a.session.now a.c a.received a.start a.end a.out.now _ _ c.requires.0 c.requires.1 (rw c.lent.ensures at c.run_events-r.ensures) (omega (arith, c.well_formed)) }

pub overflow_add-cursor-2 : goal.overflow_add-cursor-2
overflow_add-cursor-2 c =
    let a = c.args in
    record { fits = sample_fits a.budget a.session.now a.c a.received a.start a.end a.out.now _ _ c.requires.0 c.requires.1 (rw c.lent.ensures at c.run_events-r.ensures) (omega (arith, c.well_formed.0)) (omega (arith, c.well_formed)) }

pub returns : goal.returns
returns c =
    let a = c.args in
    (played_on a.budget a.session.now a.c a.received a.start a.end a.out.now _ _ c.requires.0 c.requires.1 (rw c.lent.ensures at c.run_events-r.ensures) c.in_default.is)
