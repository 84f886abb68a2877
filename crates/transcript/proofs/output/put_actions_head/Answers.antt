-- No action, or a header in front of them.
use Rattle.transcript.proofs.Heads.{headed_none, headed_some}
use Rattle.transcript.proofs.output.put_actions_head.Goals as goal

pub returns-then-size-eq0 : goal.returns-then-size-eq0
returns-then-size-eq0 c =
    headed_none _ _ c.args.size c.if-size-eq0.true

pub returns : goal.returns
returns c =
    headed_some _ _ c.args.size c.if-size-eq0.false c.put_head.ensures
