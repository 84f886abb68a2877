-- Reading on from the number so far gives what reading the whole word gives, and the number has at most five digits.
use Rattle.std.proofs.Common.{◌≡◌, ◌≤◌, drop}
use Rattle.text.specs.Words.{count_from, count_of}
use Rattle.text.proofs.numbers.count.Given as goal

abbrev pub invariant-loop-b : goal.invariant-loop-b
invariant-loop-b l = record { few : l.n ≤ 99999; rest : count_from l.n (drop l.b-index l.word) ≡ count_of l.word }
