-- A part of the file, or none.
use lib.ListN.{length}
use Rattle.records.proofs.Bodies.{part_of}
use Rattle.session.proofs.replay.lent.Goals as goal

pub slice_bounds-result-count : goal.slice_bounds-result-count
slice_bounds-result-count c =
    let a = c.args in (part_of a.c.sample a.c.sampled (length a.session.now) c.if-start-end.true).0

pub slice_bounds-result-start : goal.slice_bounds-result-start
slice_bounds-result-start c =
    let a = c.args in (part_of a.c.sample a.c.sampled (length a.session.now) c.if-start-end.true).0

pub slice_bounds-result-end : goal.slice_bounds-result-end
slice_bounds-result-end c =
    let a = c.args in (part_of a.c.sample a.c.sampled (length a.session.now) c.if-start-end.true).1

pub returns-then-start-end : goal.returns-then-start-end
returns-then-start-end c =
    rw c.if-start-end.true

pub returns : goal.returns
returns c =
    rw c.if-start-end.false
