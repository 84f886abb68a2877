-- The bytes that pass a test from a place on: one more, none more; and where a word lies. Assumes nothing.
use Prim.Native.Nat.{ℕ, suc, ◌+◌, ◌≤◌, ◌<◌}
use mathlib.Core.Path.{◌≡◌, refl}
use mathlib.Core.Bool.{Bool, true, false}
use mathlib.Core.List.{List, [], ◌∷◌}
use native.Mathlib.Omega.{arith}
use native.Mathlib.Numerals.{add-one}
use lib.ListN.{length, get_or, drop, length-drop, drop_of_length-le}
use lib.Seq.{drop-cons}
use borrow.Author.Tests.{leb-true, leb-false}
use lib.Dec.{leb}
use Rattle.wire.proofs.Choices.{by_cond}
use Rattle.text.specs.Words.{is_blank, in_word, span, past, word_at}

module _ (c : ℕ → Bool) (t : List ℕ) (i : ℕ) where
  pub past_more : i < length t → c (get_or t i 0) ≡ true → past t c i ≡ past t c (i + 1)
  unfolding span
  past_more h e = rw (drop-cons t i 0 h, e, add-one i) (omega arith)

  pub past_stop : i < length t → c (get_or t i 0) ≡ false → past t c i ≡ i
  unfolding span
  past_stop h e = rw (drop-cons t i 0 h, e) (omega arith)

  pub past_end : length t ≤ i → past t c i ≡ i
  unfolding span
  past_end h = rw (drop_of_length-le t h) (omega arith)

span_within : (c : ℕ → Bool) (l : List ℕ) → span c l ≤ length l
unfolding span
span_within c [] = omega arith
span_within c (b ∷ bs) = by_cond (λ (n : ℕ). n ≤ suc (length bs)) (c b) (λ _. omega (arith, span_within c bs)) (λ _. omega arith)

pub past_within : (t : List ℕ) (c : ℕ → Bool) (p : ℕ) → p ≤ length t → past t c p ≤ length t
past_within t c p h = omega (arith, span_within c (drop p t), length-drop p t)

-- WHERE A WORD LIES
module _ (t : List ℕ) (p : ℕ) where
  pub word_after : p ≤ (word_at t p).start
  unfolding word_at
  word_after = omega arith

  pub word_forward : (word_at t p).start ≤ (word_at t p).end
  unfolding word_at
  word_forward = omega arith

  pub word_within : p ≤ length t → (word_at t p).end ≤ length t
  unfolding word_at
  word_within h = past_within t in_word (past t is_blank p) (past_within t is_blank p h)

  -- a word with a byte lies in the text
  pub word_there : (word_at t p).start < (word_at t p).end → (word_at t p).end ≤ length t
  unfolding word_at
  word_there h = go (leb (past t is_blank p) (length t)) refl
    where
      go : (b : Bool) → leb (past t is_blank p) (length t) ≡ b → past t in_word (past t is_blank p) ≤ length t
      go true e = past_within t in_word (past t is_blank p) (leb-true (past t is_blank p) (length t) e)
      go false e = absurd (omega (arith, h, past_end in_word t (past t is_blank p) (omega (arith, leb-false (past t is_blank p) (length t) e))))
