-- By what is next.
use Rattle.std.proofs.Common.{◌≡◌}
use Rattle.std.specs.Prelude.{Ok, Err}
use Rattle.session.specs.Next.{next_of}
use Rattle.session.specs.declared.next.Next.TheVariants as n
use Rattle.session.proofs.NextSteps.{event_lies}
use Rattle.session.proofs.Playing.{ran_none, eventless, enters_body}
use Rattle.session.proofs.steps.step.Goals as goal

pub play-requires : goal.play-requires
play-requires c =
    let a = c.args in
    let w = c.in-Ok-Event in
    let q : next_of a.session.now a.c.at a.c.end ≡ Ok (n.Event w.received w.start w.end) = cc in
    (record { size = (event_lies a.session.now a.c.at a.c.end q).size; live = c.requires.0; more = c.requires.1; room = c.requires.2 }, enters_body a.session.now a.c q)

pub returns-in-Ok-Empty : goal.returns-in-Ok-Empty
returns-in-Ok-Empty c =
    let a = c.args in
    let w = c.in-Ok-Empty in
    let q : next_of a.session.now a.c.at a.c.end ≡ Ok (n.Empty w.start w.end) = cc in
    rw (c.pass.ensures, c.entered.ensures) (eventless a.budget a.session.now a.c a.out.now c.requires.0 c.requires.1 c.requires.2 q (ran_none _ a.out.now))

pub returns-in-Ok-Samples : goal.returns-in-Ok-Samples
returns-in-Ok-Samples c =
    let a = c.args in
    let w = c.in-Ok-Samples in
    let q : next_of a.session.now a.c.at a.c.end ≡ Ok (n.Samples w.start w.end) = cc in
    rw (c.pass-in-Ok-Samples.ensures, c.replaced.ensures) (eventless a.budget a.session.now a.c a.out.now c.requires.0 c.requires.1 c.requires.2 q (ran_none _ a.out.now))

pub returns-in-Ok-End : goal.returns-in-Ok-End
returns-in-Ok-End c =
    let a = c.args in
    let w = c.in-Ok-End in
    let q : next_of a.session.now a.c.at a.c.end ≡ Ok n.End = cc in
    eventless a.budget a.session.now a.c a.out.now c.requires.0 c.requires.1 c.requires.2 q c.last.ensures

pub returns-in-Err : goal.returns-in-Err
returns-in-Err c =
    let a = c.args in
    let w = c.in-Err in
    let q : next_of a.session.now a.c.at a.c.end ≡ Err w.stopped = cc in
    eventless a.budget a.session.now a.c a.out.now c.requires.0 c.requires.1 c.requires.2 q c.stop.ensures
