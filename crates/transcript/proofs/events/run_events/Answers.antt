-- A state that breaks a range, or event after event, at most as many as there are.
use mathlib.Core.Path.{sym, ◌∙◌}
use Rattle.registers.proofs.InRange.{range_test}
use Rattle.transcript.proofs.Progress.{range_broken, range_kept, least_reached}
use Rattle.transcript.proofs.Reaching.{body_ranges}
use Rattle.transcript.proofs.events.run_events.Goals as goal

pub returns-then-body-in_range : goal.returns-then-body-in_range
returns-then-body-in_range c =
    let h = range_broken _ _ c.if-body-in_range.true in
    body_ranges c.args.budget c.args.s c.args.received c.args.body.now c.args.samples.now c.args.out.now c.requires.0 h.0 (sym c.in_range.ensures ∙ h.1) c.requires.1

pub returns : goal.returns
returns c =
    let a = c.args in
    least_reached a.budget a.s a.received a.body.now a.samples.now a.out.now _ _ _ c.min.ensures c.run_in_range.ensures
