-- By the verdict.
use borrow.Author.Rules.{rules}
use mathlib.Core.Path.{refl}
use Rattle.grammar.specs.declared.Verdict.TheVariants.{Whole, Open}
use Rattle.verdicts.proofs.Lines.{line_written}
use Rattle.verdicts.proofs.put_verdict.Goals as goal

pub returns-in-Whole : goal.returns-in-Whole
returns-in-Whole c = rw c.in-Whole.is (line_written Whole 0 refl c.put_bytes.ensures (search rules))

pub returns-in-Open : goal.returns-in-Open
returns-in-Open c = rw c.in-Open.is (line_written Open 0 refl c.put_bytes-in-Open.ensures (search rules))
