-- From the loop's start through an event to its ends.
use native.Mathlib.Omega.{arith}
use Rattle.records.specs.Contents.{events_of}
use Rattle.transcript.proofs.Reaching.{body_first, reached_short, reached_end, body_step, body_refused}
use Rattle.transcript.proofs.events.run_in_range.Goals as goal

pub loop-read-init : goal.loop-read-init
loop-read-init c =
    body_first c.args.most c.args.s c.args.received c.args.body.now c.args.samples.now c.args.out.now c.requires.0

pub returns-then-out-written-lt-MOST_OUTPUT : goal.returns-then-out-written-lt-MOST_OUTPUT
returns-then-out-written-lt-MOST_OUTPUT c =
    let a = c.args in reached_short a.most a.s (events_of a.received a.body.now) a.samples.now a.out.now c.loop-read.invariant c.if-out-written-lt-MOST_OUTPUT.true

pub returns-in-Err : goal.returns-in-Err
returns-in-Err c =
    body_refused c.args.most c.args.s c.args.received c.args.body.now c.args.samples.now c.args.out.now c.loop-read.invariant c.requires.1 c.loop-read-test.true c.if-out-written-lt-MOST_OUTPUT.false c.event_of-event.ensures c.in-Err.ensures

pub loop-read-preserved : goal.loop-read-preserved
loop-read-preserved c =
    body_step c.args.most c.args.s c.args.received c.args.body.now c.args.samples.now c.args.out.now c.loop-read.invariant c.requires.1 c.loop-read-test.true c.if-out-written-lt-MOST_OUTPUT.false c.event_of-event.ensures c.in-Ok.ensures
