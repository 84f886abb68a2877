-- No step, or one.
use Rattle.session.proofs.Advances.{work, advances, stays}
use Rattle.session.proofs.replay.advance.Goals as goal

pub returns-then-done-out : goal.returns-then-done-out
returns-then-done-out c =
    let a = c.args in stays a.session.now a.c a.out.now c.if-done-out.true

pub step_once-requires : goal.step_once-requires
step_once-requires c =
    let a = c.args in (work a.session.now a.c a.out.now c.if-done-out.false).1

pub returns : goal.returns
returns c =
    let a = c.args in
    let w = work a.session.now a.c a.out.now c.if-done-out.false in
    advances a.session.now a.c a.out.now w.0 w.1 c.step_once.ensures
