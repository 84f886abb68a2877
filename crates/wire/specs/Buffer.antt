-- Lent buffers (01, "What goes in and comes out"): what is written goes "to the unused rest of a lent buffer, after what
-- earlier events put there; bytes before and beyond are untouched".
use Rattle.std.specs.Prelude.{ℕ, ◌+◌, ◌≤◌, ◌≡◌, Bool, List, ◌++◌, leb, length, take, drop}
use Rattle.std.proofs.lemmas.List.Edits.{sets}

-- what a buffer holds after xs are stored, one after another, from a mark; past its end nothing is stored
unfoldable pub overwrite : List ℕ → ℕ → List ℕ → List ℕ
overwrite buffer mark xs = sets buffer mark xs

-- whether so many bytes fit after a mark: 01's "A mark (in bytes) past the end .. even if nothing is needed"
abbrev pub fits_in : ℕ → ℕ → ℕ → Bool
fits_in size mark need = leb (mark + need) size

-- what a writer of xs at a place leaves in its buffer, and the place after what it wrote
pub record Written (entry : List ℕ) (place : ℕ) (xs exit : List ℕ) (next : ℕ) : Type 0 where
  pub bytes : exit ≡ overwrite entry place xs
  pub after : next ≡ place + length xs

-- THEOREM (proofs/Buffers.antt, `overwrite_right`): the length stays, and where xs fit, the buffer then holds the bytes
-- before the mark, xs, and the bytes beyond
pub record Overwritten (buffer : List ℕ) (mark : ℕ) (xs : List ℕ) : Type 0 where
  pub size : length (overwrite buffer mark xs) ≡ length buffer
  pub parts : mark + length xs ≤ length buffer → overwrite buffer mark xs ≡ take mark buffer ++ xs ++ drop (mark + length xs) buffer
