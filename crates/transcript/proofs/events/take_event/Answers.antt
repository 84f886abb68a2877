-- The event as it was measured is its call's answer: refused, or the two records written.
use mathlib.Core.Path.{sym, ◌∙◌}
use Rattle.registers.specs.Ranges.{Sized}
use Rattle.transcript.proofs.Carried.{event_refused, actions_fit, says_size, replies_fit, event_taken}
use Rattle.transcript.proofs.events.take_event.Goals as goal
use Rattle.transcript.proofs.events.take_event.Goals.{Start}

-- that the state is good says how long its arrays are
sized : (c : Start) → Sized c.args.s
sized c =
    let page = c.well_formed.0.1.1.1.1.1.0 in
    let shared = c.well_formed.0.1.1.1.0 in
    record {
      eprom = shared.1.1.1.1.1.0.1.0.1;
      serial = shared.1.1.1.0.1.0.1;
      packet = page.1.1.1.1.0.1.0.1;
      timings = page.1.1.1.1.1.1.1.1.1.1.0.1.0.1;
    }

pub returns-then-not-fits : goal.returns-then-not-fits
returns-then-not-fits c =
    event_refused c.args.s c.args.event c.args.samples.now c.args.out.now c.requires.0 (sized (goal.at.returns-then-not-fits c).Start) c.requires.1 c.measure-r.result c.measure-r.ensures (sym c.fits.ensures ∙ c.if-not-fits.true)

pub put_actions-at-requires : goal.put_actions-at-requires
put_actions-at-requires c =
    (c.measure-r.ensures.page_small, actions_fit c.args.s c.args.event c.args.samples.now c.args.out.now c.requires.0 (sized (goal.at.put_actions-at-requires c).Start) c.requires.1 c.measure-r.result c.measure-r.ensures)

pub put_replies-written-requires : goal.put_replies-written-requires
put_replies-written-requires c =
    (c.measure-r.ensures.state_small, says_size c.args.s c.args.event c.args.samples.now c.args.out.now c.requires.0 (sized (goal.at.put_replies-written-requires c).Start) c.requires.1 c.measure-r.result c.measure-r.ensures, replies_fit c.args.s c.args.event c.args.samples.now c.args.out.now c.requires.0 (sized (goal.at.put_replies-written-requires c).Start) c.requires.1 c.measure-r.result c.measure-r.ensures c.put_actions-at.ensures)

pub returns : goal.returns
returns c =
    event_taken c.args.s c.args.event c.args.samples.now c.args.out.now c.requires.0 (sized (goal.at.returns c).Start) c.requires.1 c.measure-r.result c.measure-r.ensures c.put_actions-at.ensures c.put_replies-written.ensures (sym c.fits.ensures ∙ c.if-not-fits.false)
