-- The actions stand behind room for their header, which is then put in front of them.
use Rattle.transcript.proofs.Carried.{headed_as}
use Rattle.transcript.proofs.output.put_actions.Goals as goal

pub returns : goal.returns
returns c =
    headed_as c.args.out.now 0x0102 c.requires.1 c.write-size.ensures c.put_actions_head.ensures
