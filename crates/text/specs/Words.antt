-- A script's words: the bytes between blanks, up to the line's end or a comment; and what a word can say.
use Rattle.std.specs.Prelude.{ℕ, suc, ◌+◌, ◌-◌, ◌*◌, Bool, true, false, not, cond, ◌&&◌, ◌||◌, List, [], ◌∷◌, Option, Some, None, eqb, leb, ltb, length, drop}
use Rattle.records.specs.Records.{part}
use Rattle.text.specs.declared.words.Class.{Class}
use Rattle.text.specs.declared.words.Class.TheVariants as k
pub use Rattle.text.specs.declared.words.Word.{Word}

-- a blank, a tabulator or a carriage return
abbrev pub is_blank : ℕ → Bool
is_blank b = eqb b 0x20 || eqb b 0x09 || eqb b 0x0D

-- the line's end or a comment's `#`
abbrev pub ends_text : ℕ → Bool
ends_text b = eqb b 0x0A || eqb b 0x23

-- the bytes of a word, and those of a line
abbrev pub in_word : ℕ → Bool
in_word b = not (is_blank b || ends_text b)

abbrev pub in_line : ℕ → Bool
in_line b = not (eqb b 0x0A)

-- the bytes between words, those of a word, and those of a line
abbrev pub is_in : Class → ℕ → Bool
is_in k.Blank b = is_blank b
is_in k.Word b = in_word b
is_in k.Line b = in_line b

-- how many bytes at the front pass a test
unfoldable pub span : (ℕ → Bool) → List ℕ → ℕ
span p [] = 0
span p (b ∷ bs) = cond (p b) (suc (span p bs)) 0

-- the place past the bytes that pass a test, from a place on
abbrev pub past : List ℕ → (ℕ → Bool) → ℕ → ℕ
past t p i = i + span p (drop i t)

-- the next word from a place on, from its start to its end; where both are one, the line's text ends there
unfoldable pub word_at : List ℕ → ℕ → Word
word_at t p = record { start = past t is_blank p; end = past t in_word (past t is_blank p) }

abbrev pub text_of : List ℕ → Word → List ℕ
text_of t w = part t w.start w.end

-- whether two rows of bytes are the same
unfoldable pub same : List ℕ → List ℕ → Bool
same [] [] = true
same [] (y ∷ ys) = false
same (x ∷ xs) [] = false
same (x ∷ xs) (y ∷ ys) = eqb x y && same xs ys

-- a hex digit's value
abbrev pub is_between : ℕ → ℕ → ℕ → Bool
is_between least most b = leb least b && leb b most

abbrev pub digit_of : ℕ → Option ℕ
digit_of b = cond (is_between 0x30 0x39 b) (Some (b - 0x30)) (cond (is_between 0x41 0x46 b) (Some (b - 0x37)) (cond (is_between 0x61 0x66 b) (Some (b - 0x57)) None))

-- a byte is two hex digits
abbrev pub two_digits : Option ℕ → Option ℕ → Option ℕ
two_digits (Some high) (Some low) = Some (16 * high + low)
two_digits (Some high) None = None
two_digits None low = None

abbrev pub hex_of : List ℕ → Option ℕ
hex_of (high ∷ low ∷ []) = two_digits (digit_of high) (digit_of low)
hex_of _ = None

-- a count is decimal, from 1 to 99,999
abbrev pub with_digit : ℕ → (ℕ → Option ℕ) → Option ℕ → Option ℕ
with_digit n rest (Some d) = cond (ltb d 10 && leb n 9999) (rest (10 * n + d)) None
with_digit n rest None = None

unfoldable pub count_from : ℕ → List ℕ → Option ℕ
count_from n [] = cond (eqb n 0) None (Some n)
count_from n (b ∷ bs) = with_digit n (λ m. count_from m bs) (digit_of b)

abbrev pub count_of : List ℕ → Option ℕ
count_of w = count_from 0 w
