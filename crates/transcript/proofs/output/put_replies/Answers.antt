-- No byte, or a header and then the reply.
use borrow.Author.Tests.{eq-eqb, ne_eqb}
use mathlib.Core.Path.{refl, sym, ◌∙◌}
use Rattle.wire.proofs.Buffers.{written_none, written_after}
use Rattle.transcript.proofs.Heads.{record_from_lem}
use Rattle.transcript.proofs.output.put_replies.Goals as goal

pub returns-then-size-eq0 : goal.returns-then-size-eq0
returns-then-size-eq0 c =
    rw (eq-eqb _ _ (sym c.requires.1 ∙ c.if-size-eq0.true)) (written_none _ _)

pub returns : goal.returns
returns c =
    rw (ne_eqb _ _ (λ e. c.if-size-eq0.false (c.requires.1 ∙ e))) (record_from_lem _ _ 0x0101 _ c.requires.1 c.put_head-n.ensures (written_after c.put_head-n.new.out c.put_head-n.result c.put_reply.ensures refl))
