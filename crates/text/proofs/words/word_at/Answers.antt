-- Past the blanks, and from there past the word.
use Rattle.text.specs.Words.{word_at}
use Rattle.text.proofs.words.word_at.Goals as goal

pub returns : goal.returns
unfolding word_at
returns c =
    rw (c.past-end.ensures, c.past-start.ensures)
