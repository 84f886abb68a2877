-- The bytes that pass end at one place, from wherever among them the search goes on.
use Rattle.std.proofs.Common.{◌≡◌, ℕ, Bool, ◌<◌, ◌≤◌, length, max}
use Rattle.text.specs.Words.{past}
use Rattle.text.proofs.words.run_end.Given as goal

abbrev pub invariant-loop-i : goal.invariant-loop-i
invariant-loop-i g l = (l.i ≤ max (length l.text) l.at) × ((p : ℕ → Bool) → ((b : ℕ) → (r : Bool) → b < 256 → goal.F-post g l.passes b r → r ≡ p b) → past l.text p l.i ≡ past l.text p l.at)
