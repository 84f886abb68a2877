-- By what is next.
use Rattle.std.proofs.Common.{◌≡◌, arith, refl, ◌≤◌, length}
use Rattle.std.specs.Prelude.{Ok, Err}
use Rattle.records.proofs.Parts.{part_length, samples_fit}
use Rattle.session.specs.Next.{next_of}
use Rattle.session.specs.declared.next.Next.TheVariants as n
use Rattle.session.proofs.Playing.{ran_none}
use Rattle.session.proofs.NextSteps.{event_lies}
use Rattle.session.proofs.Advances.{without_event_lem, with_event}
use Rattle.session.proofs.advancing.step_once.Goals as goal

pub slice_bounds-take_first-count : goal.slice_bounds-take_first-count
slice_bounds-take_first-count c =
    let a = c.args in
    let w = c.in-Ok-Event in
    let q : next_of a.session.now a.c.at a.c.end ≡ Ok (n.Event w.received w.start w.end) = cc in
    let l = event_lies a.session.now a.c.at a.c.end q in
    omega (arith, l.some)

pub slice_bounds-take_first-start : goal.slice_bounds-take_first-start
slice_bounds-take_first-start c =
    let a = c.args in
    let w = c.in-Ok-Event in
    let q : next_of a.session.now a.c.at a.c.end ≡ Ok (n.Event w.received w.start w.end) = cc in
    let l = event_lies a.session.now a.c.at a.c.end q in
    omega (arith, l.some, l.within)

pub slice_bounds-take_first-end : goal.slice_bounds-take_first-end
slice_bounds-take_first-end c =
    let a = c.args in
    let w = c.in-Ok-Event in
    let q : next_of a.session.now a.c.at a.c.end ≡ Ok (n.Event w.received w.start w.end) = cc in
    let l = event_lies a.session.now a.c.at a.c.end q in
    omega (arith, l.some, l.within)

pub take_first-requires : goal.take_first-requires
take_first-requires c =
    let a = c.args in
    let w = c.in-Ok-Event in
    let q : next_of a.session.now a.c.at a.c.end ≡ Ok (n.Event w.received w.start w.end) = cc in
    let l = event_lies a.session.now a.c.at a.c.end q in
    let i : w.start ≤ w.end = omega (arith, l.some) in
    (c.requires, omega (arith, l.some, part_length a.session.now w.start w.end i l.within), omega (arith, l.some, l.within, c.well_formed), rw c.lent.ensures (samples_fit a.session.now a.c.sample a.c.sampled (omega (arith, c.well_formed.0)) (omega (arith, c.well_formed))))

pub returns-in-Ok-Event : goal.returns-in-Ok-Event
returns-in-Ok-Event c =
    let a = c.args in
    let w = c.in-Ok-Event in
    let q : next_of a.session.now a.c.at a.c.end ≡ Ok (n.Event w.received w.start w.end) = cc in
    with_event a.session.now a.c a.out.now q (rw c.lent.ensures at c.take_first.ensures)

pub returns-in-Ok-Empty : goal.returns-in-Ok-Empty
returns-in-Ok-Empty c =
    let a = c.args in
    let w = c.in-Ok-Empty in
    let q : next_of a.session.now a.c.at a.c.end ≡ Ok (n.Empty w.start w.end) = cc in
    rw (c.codeless.ensures, c.pass.ensures, c.entered.ensures) (without_event_lem a.session.now a.c a.out.now _ q refl (ran_none _ a.out.now))

pub returns-in-Ok-Samples : goal.returns-in-Ok-Samples
returns-in-Ok-Samples c =
    let a = c.args in
    let w = c.in-Ok-Samples in
    let q : next_of a.session.now a.c.at a.c.end ≡ Ok (n.Samples w.start w.end) = cc in
    rw (c.codeless-in-Ok-Samples.ensures, c.pass-in-Ok-Samples.ensures, c.replaced.ensures) (without_event_lem a.session.now a.c a.out.now _ q refl (ran_none _ a.out.now))

pub returns-in-Ok-End : goal.returns-in-Ok-End
returns-in-Ok-End c =
    let a = c.args in
    let w = c.in-Ok-End in
    let q : next_of a.session.now a.c.at a.c.end ≡ Ok n.End = cc in
    rw c.codeless-in-Ok-End.ensures (without_event_lem a.session.now a.c a.out.now _ q refl c.last.ensures)

pub returns-in-Err : goal.returns-in-Err
returns-in-Err c =
    let a = c.args in
    let w = c.in-Err in
    let q : next_of a.session.now a.c.at a.c.end ≡ Err w.stopped = cc in
    rw c.codeless-in-Err.ensures (without_event_lem a.session.now a.c a.out.now _ q refl c.stop.ensures)
