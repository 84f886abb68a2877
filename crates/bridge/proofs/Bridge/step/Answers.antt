-- Refused, or written as it was admitted.
use mathlib.Core.Path.{ap}
use Rattle.wire.specs.Action.{bytes_of}
use Rattle.wire.proofs.Buffers.{part_start, part_room, written_after}
use Rattle.bridge.specs.Answering.{lent}
use Rattle.bridge.proofs.Measures.{actions_fit, replies_fit}
use Rattle.bridge.proofs.Answers.{accept_event}
use Rattle.bridge.proofs.Bridge.step.Goals as goal

pub slice_bounds-write-count : goal.slice_bounds-write-count
slice_bounds-write-count c =
    part_start _ _ _ c.in-Ok.ensures.actions_fit

pub slice_bounds-write-start : goal.slice_bounds-write-start
slice_bounds-write-start c =
    part_start _ _ _ c.in-Ok.ensures.actions_fit

pub write-requires : goal.write-requires
write-requires c =
    (c.in-Ok.ensures.measured.page_small, actions_fit c.in-Ok.ensures.measured _ (part_room c.args.acted _ c.args.actions.now c.in-Ok.ensures.actions_fit))

pub put_reply-requires : goal.put_reply-requires
put_reply-requires c =
    (c.in-Ok.ensures.measured.state_small, replies_fit c.in-Ok.ensures.measured _ (part_room c.args.replied _ c.args.replies.now c.in-Ok.ensures.replies_fit))

pub returns : goal.returns
returns c =
    let l = lent c.args.samples.now c.args.sampled c.args.actions.now c.args.acted c.args.replies.now c.args.replied in
    rw c.accepted.ensures
    (accept_event c.args.self c.args.event l c.in-Ok.ensures
    (written_after c.args.actions.now c.args.acted c.write.ensures (ap bytes_of c.in-Ok.ensures.measured.actions))
    (written_after c.args.replies.now c.args.replied c.put_reply.ensures c.in-Ok.ensures.measured.replies))
