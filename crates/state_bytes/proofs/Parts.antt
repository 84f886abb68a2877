-- Laws of the parts of a row of bytes: read where they stand, joined, and copied. Assumes nothing.
use Prim.Native.Nat.{ℕ, zero, suc, ◌+◌, ◌≤◌}
use mathlib.Core.Path.{◌≡◌, sym, ap, ◌∙◌}
use mathlib.Core.List.{List, [], ◌∷◌, ◌++◌, append-nil}
use native.Mathlib.Nat.{add-zero}
use native.Mathlib.Omega.{arith}
use lib.ListN.{get_or, length, take, drop, take-append-drop, drop_of_length-le}
use lib.Seq.{drop-cons, drop-drop, take_at, drop_at, get_or_at}
use Rattle.wire.specs.Buffer.{Written}
use Rattle.wire.proofs.Buffers.{overwrite_right}
use Rattle.state_bytes.specs.StateBytes.{piece}

-- a part, and a byte, of a row that has it in its place
pub piece_is : (l a b c : List ℕ) (at n : ℕ) → l ≡ a ++ (b ++ c) → length a ≡ at → length b ≡ n → piece l at n ≡ b
piece_is l a b c at n e ha hb = ap (λ (r : List ℕ). take n (drop at r)) e ∙ ap (take n) (drop_at a (b ++ c) at ha) ∙ take_at b c n hb

pub byte_is : (l a : List ℕ) (x : ℕ) (c : List ℕ) (at : ℕ) → l ≡ a ++ (x ∷ c) → length a ≡ at → get_or l at 0 ≡ x
byte_is l a x c at e ha = ap (λ (r : List ℕ). get_or r at 0) e ∙ get_or_at a x c 0 at ha

-- a row from a place on is a part of it and the row after that
pub piece_first : (i : List ℕ) (at n : ℕ) → drop at i ≡ piece i at n ++ drop (at + n) i
piece_first i at n = sym (take-append-drop n (drop at i)) ∙ ap (λ (r : List ℕ). piece i at n ++ r) (drop-drop n at i)

-- .. or so many bytes of it
abbrev pub bytes_at : List ℕ → ℕ → ℕ → List ℕ
bytes_at i at zero = []
bytes_at i at (suc n) = get_or i at 0 ∷ bytes_at i (suc at) n

pub bytes_first : (i : List ℕ) (at n : ℕ) → at + n ≤ length i → drop at i ≡ bytes_at i at n ++ drop (at + n) i
bytes_first i at zero h = rw add-zero
bytes_first i at (suc n) h =
    let e : suc at + n ≡ at + suc n = omega arith in
    drop-cons i at 0 (omega arith) ∙ ap (λ (r : List ℕ). get_or i at 0 ∷ r) (bytes_first i (suc at) n (omega arith) ∙ ap (λ (k : ℕ). bytes_at i (suc at) n ++ drop k i) e)

-- a row written over another of its length
pub written_whole : (l xs : List ℕ) {r : List ℕ} {next : ℕ} → length l ≡ length xs → Written l 0 xs r next → r ≡ xs
written_whole l xs e w =
    w.bytes ∙ (overwrite_right l 0 xs).parts (omega arith) ∙ ap (λ (r : List ℕ). xs ++ r) (drop_of_length-le l {i = 0 + length xs} (omega arith)) ∙ append-nil xs
