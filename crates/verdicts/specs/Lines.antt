-- The judge's verdicts in words: 01's "whole", "open" and "wrong at place k", with the code there (02, Ask 1), as lines.
use Rattle.std.specs.Prelude.{ℕ, ◌≡◌, List, ◌++◌}
use Rattle.io.specs.Counts.{IsPrefixLen}
use Rattle.io.specs.Digits.{last_digits, IsDigitCount}
use Rattle.padding.specs.Padding.{bytes}
use Rattle.wire.specs.Buffer.{Written}
use Rattle.grammar.specs.declared.Verdict.{Verdict}
use Rattle.grammar.specs.declared.Verdict.TheVariants as v

-- the end of the line of a wrong place: its code by two hexadecimal digits in brackets
abbrev pub code_end : ℕ → List ℕ
code_end w = bytes " (" ++ last_digits 16 2 w ++ bytes ")\n"

-- a verdict's line; a place goes by its decimal digits, with no zeros in front, of which there are so many
abbrev pub verdict_line : Verdict → ℕ → List ℕ
verdict_line v.Whole n = bytes "whole\n"
verdict_line v.Open n = bytes "open\n"
verdict_line (v.Wrong k w) n = bytes "wrong at " ++ last_digits 10 n k ++ code_end w

-- so many digits are a verdict's
abbrev pub HasDigits : Verdict → ℕ → Type 0
HasDigits v.Whole n = n ≡ 0
HasDigits v.Open n = n ≡ 0
HasDigits (v.Wrong k w) n = IsDigitCount 10 1 k n

-- a verdict's line is written to the front of a buffer, which held o and then holds x, up to a place within it
pub record LineWritten (v : Verdict) (o x : List ℕ) (next : ℕ) : Type 0 where
  pub places : ℕ
  pub fewest : HasDigits v places
  pub wrote : Written o 0 (verdict_line v places) x next
  pub counts : IsPrefixLen next x
