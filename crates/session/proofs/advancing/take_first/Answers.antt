-- Refused for its ranges, refused as it was measured, or taken.
use mathlib.Core.Path.{sym, ap, ◌∙◌}
use native.Mathlib.Omega.{arith}
use Rattle.registers.proofs.InRange.{range_test}
use Rattle.refusals.specs.declared.Refusal.TheVariants.{Ranges}
use Rattle.records.specs.Contents.{event_of}
use Rattle.bridge.specs.Answering.{Given}
use lib.ListN.{get_or}
use Rattle.transcript.proofs.CallTests.{call_ranges}
use Rattle.session.proofs.Advances.{first_refused, first_stops, first_taken}
use Rattle.session.proofs.advancing.take_first.Goals as goal

pub returns-then-not-in_range : goal.returns-then-not-in_range
returns-then-not-in_range c =
    let a = c.args in
    let t = call_ranges a.c.bridge (event_of a.received (get_or a.body.now 0 0)) a.samples.now (sym c.in_range.ensures ∙ c.if-not-in_range.true) in
    rw c.codeless.ensures (first_refused a.c a.received a.start a.end a.body.now a.samples.now a.out.now Ranges (ap (λ (g : Given). g.answer.outcome) t) c.stop.ensures)

pub take_event-requires : goal.take_event-requires
take_event-requires c =
    ((range_test c.args.c.bridge.state).0 (sym c.in_range.ensures ∙ c.if-not-in_range.false), c.requires.0)

pub returns-in-Ok : goal.returns-in-Ok
returns-in-Ok c =
    let a = c.args in
    first_taken a.c a.received a.start a.end a.body.now a.samples.now a.out.now (rw c.event_of-event.ensures at c.in-Ok.ensures)

pub returns-in-Err : goal.returns-in-Err
returns-in-Err c =
    let a = c.args in
    rw c.codeless-in-Err.ensures (first_stops a.c a.received a.start a.end a.body.now a.samples.now a.out.now (rw c.event_of-event.ensures at c.in-Err.ensures) c.stop-in-Err.ensures)
