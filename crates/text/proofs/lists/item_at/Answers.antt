-- By the next word.
use Rattle.text.specs.Lists.{item_at}
use Rattle.text.proofs.lists.item_at.Goals as goal

pub returns : goal.returns
unfolding item_at
returns c =
    rw c.word_at.ensures at c.begun.ensures
