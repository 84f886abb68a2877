-- Refused where no image is used, else on by it.
use native.Mathlib.Nat.{zero-add}
use mathlib.Core.Path.{ap, ◌∙◌, refl}
use Rattle.wire.proofs.Buffers.{part_start, part_room, written_after}
use Rattle.settings.specs.Images.{page_of}
use Rattle.switch_on.proofs.SwitchOutcomes.{factory_good, room_left, refuse, goes_on}
use Rattle.switch_on.proofs.switch_on.Goals as goal

pub returns-in-Err : goal.returns-in-Err
returns-in-Err c =
    refuse c.args.stored.now c.args.factory.now c.args.device c.args.buffer.now c.args.mark c.in-Err.ensures.off.0 c.refused.ensures c.in-Err.ensures.off.1

pub eprom-eprom-requires : goal.eprom-eprom-requires
eprom-eprom-requires c =
    factory_good c.args.stored.now c.args.factory.now c.args.device c.args.buffer.now c.args.mark c.in-Ok.ensures.on.0

pub slice_bounds-put-count : goal.slice_bounds-put-count
slice_bounds-put-count c =
    part_start _ _ _ (room_left c.args.stored.now c.args.factory.now c.args.device c.args.buffer.now c.args.mark c.in-Ok.ensures.on.0)

pub slice_bounds-put-start : goal.slice_bounds-put-start
slice_bounds-put-start c =
    part_start _ _ _ (room_left c.args.stored.now c.args.factory.now c.args.device c.args.buffer.now c.args.mark c.in-Ok.ensures.on.0)

pub put-n-requires : goal.put-n-requires
put-n-requires c =
    rw (c.page-page.ensures ∙ ap page_of c.in-Ok.ensures.on.1)
    (part_room c.args.mark _ c.args.buffer.now (room_left c.args.stored.now c.args.factory.now c.args.device c.args.buffer.now c.args.mark c.in-Ok.ensures.on.0))

pub returns : goal.returns
returns c =
    goes_on c.args.stored.now c.args.factory.now c.args.device c.args.buffer.now c.args.mark c.in-Ok.ensures.on.0 c.in-Ok.ensures.on.1 c.page-page.ensures (c.put-n.ensures.after ∙ zero-add _) c.eprom-eprom.ensures c.state-s.ensures (written_after c.args.buffer.now c.args.mark c.put-n.ensures refl)
