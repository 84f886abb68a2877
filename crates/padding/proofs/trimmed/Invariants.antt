-- What is left of the text has the size of the whole.
use mathlib.Core.Path.{◌≡◌}
use lib.ListN.{length}
use Rattle.padding.specs.Padding.{size_within}
use Rattle.padding.proofs.trimmed.Given as goal

abbrev pub invariant-loop-i : goal.invariant-loop-i
invariant-loop-i l = size_within l.text l.i ≡ size_within l.text (length l.text)
