-- The three parts, one after another, are as many bytes as those that they are written over.
use mathlib.Core.Path.{sym, ◌∙◌}
use native.Mathlib.Omega.{arith}
use Rattle.wire.proofs.Buffers.{written_append}
use Rattle.state_bytes.specs.StateBytes.{state_bytes, AllSized}
use Rattle.state_bytes.proofs.Parts.{written_whole}
use Rattle.state_bytes.proofs.Sizes.{page_end, state_size_lem}
use Rattle.state_bytes.proofs.encoding.store.Goals as goal

pub put_shared-b-requires : goal.put_shared-b-requires
put_shared-b-requires c =
    (page_end _ c.put_page-a.ensures, omega arith)

pub returns : goal.returns
unfolding state_bytes
returns c =
    let p = c.put_page-a.ensures in
    let h = c.put_shared-b.ensures in
    let w = c.put_wait.ensures in
    let sized : AllSized c.args.s = record { registers = record { eprom = h.eprom; serial = h.serial; packet = p.packet; timings = p.timings }; held = w.sized } in
    record {
      bytes = written_whole c.args.bytes.now (state_bytes c.args.s) (c.requires ∙ sym (state_size_lem c.args.s sized)) (written_append _ _ _ _ (written_append _ _ _ _ p.wrote h.wrote) w.wrote);
      sized = sized;
    }
