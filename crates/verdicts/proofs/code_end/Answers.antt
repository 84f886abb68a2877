-- Its two digits are those that the kit's `hex` writes.
use borrow.Author.Rules.{rules}
use Rattle.verdicts.proofs.Lines.{code_ended}
use Rattle.verdicts.proofs.code_end.Goals as goal

pub returns : goal.returns
returns c =
    let h = c.hex.ensures in code_ended c.args.code c.hex.result _ (search rules) h.len h.digits
