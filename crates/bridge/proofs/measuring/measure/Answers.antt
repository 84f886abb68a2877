-- Decided, applied, marked, sensed, received and responded to.
use mathlib.Core.Path.{◌∙◌}
use Rattle.registers.specs.Registers.{with_drop}
use Rattle.bridge.proofs.Measures.{applied, applied_small, measured, received_size, responded_size}
use Rattle.bridge.proofs.measuring.measure.Goals as goal

pub apply-changed-requires : goal.apply-changed-requires
apply-changed-requires c =
    c.requires.0.page.size_register

pub sense-x-requires : goal.sense-x-requires
sense-x-requires c =
    (applied_small c.args.s c.args.event c.args.samples.now c.args.sampled c.requires.0 (applied c.args.s c.args.event c.args.samples.now c.args.sampled c.requires.0 c.decision_of-d.result c.decision_of-d.ensures c.apply-changed.ensures c.drop_after-pending.ensures), c.requires.1)

pub reply_size-size-requires : goal.reply_size-size-requires
reply_size-size-requires c =
    rw (responded_size _ c.respond-t.ensures ∙ received_size (with_drop c.apply-changed.result c.drop_after-pending.result) _ c.with_packet-q.ensures)
    (applied_small c.args.s c.args.event c.args.samples.now c.args.sampled c.requires.0 (applied c.args.s c.args.event c.args.samples.now c.args.sampled c.requires.0 c.decision_of-d.result c.decision_of-d.ensures c.apply-changed.ensures c.drop_after-pending.ensures))

pub returns : goal.returns
returns c =
    measured c.args.s c.args.event c.args.samples.now c.args.sampled c.requires.0 c.decision_of-d.result (with_drop c.apply-changed.result c.drop_after-pending.result) c.decision_of-d.ensures (applied c.args.s c.args.event c.args.samples.now c.args.sampled c.requires.0 c.decision_of-d.result c.decision_of-d.ensures c.apply-changed.ensures c.drop_after-pending.ensures) c.sense-x.result c.sense-x.ensures c.with_packet-q.result c.with_packet-q.ensures c.respond-t.result c.respond-t.ensures c.returned-returned.result c.returned-returned.ensures c.reply_size-size.result c.reply_size-size.ensures
