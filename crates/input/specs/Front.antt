-- What reading promises of what it answers. What the bytes are, no contract of a call to the system can say.
use Rattle.std.specs.Prelude.{ℕ, ◌≡◌, ◌≤◌, List, length}
use Rattle.std.specs.Borrow.{Bor, MutBor}

-- what was read is the front of the buffer that was lent, its first bytes: it begins where the buffer begins, and is no longer
abbrev pub IsFront : MutBor (List ℕ) → Bor (List ℕ) → Type 0
IsFront buffer front = (length front.now ≤ length buffer.now) × (front.ref_ptr ≡ buffer.ref_ptr)
