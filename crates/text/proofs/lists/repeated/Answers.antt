-- By the word behind the byte.
use Rattle.std.proofs.Common.{sym, ◌∙◌, [], ◌∷◌}
use Rattle.text.specs.Words.{text_of}
use Rattle.text.proofs.Sameness.{same_is}
use Rattle.text.proofs.lists.repeated.Goals as goal

pub returns-then-same : goal.returns-then-same
returns-then-same c =
    rw (← c.bytes.ensures, sym (same_is c.bytes.result.now (0x78 ∷ []) c.same.ensures) ∙ c.if-same.true) (rw c.word_at.ensures at c.with_count.ensures)

pub returns : goal.returns
returns c =
    rw (← c.bytes.ensures, sym (same_is c.bytes.result.now (0x78 ∷ []) c.same.ensures) ∙ c.if-same.false)
