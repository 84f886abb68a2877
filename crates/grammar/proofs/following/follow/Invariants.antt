-- The loop's invariant: following the bytes that are left from here leads where following all of them leads.
use mathlib.Core.Path.{◌≡◌}
use lib.ListN.{drop}
use Rattle.grammar.specs.Following.{followed}
use Rattle.grammar.proofs.following.follow.Given as goal

abbrev pub invariant-loop-b : goal.invariant-loop-b
invariant-loop-b l = followed l.g (drop l.b-index l.bytes) ≡ followed l.initial.g l.bytes
