-- A scanner that reads a command stream byte by byte: a device of proof and the judge's definition. That it decides the
-- grammar is a theorem (proofs/Decides.antt, `decides`).
use Rattle.std.specs.Prelude.{ℕ, zero, suc, cond, List, [], ◌∷◌, eqb, Result, Ok, Err}
use Rattle.codes.specs.Codes.{unknown_command}
use Rattle.grammar.specs.Grammar.{Context, ContextChange, Command, commands, extended_commands, legal, count, context_after}
use Rattle.grammar.specs.WrongCode.{code_for}
pub use Rattle.grammar.specs.declared.Place.{Place}
pub use Rattle.grammar.specs.declared.Place.TheVariants.{Between, Extended, Inside}
pub use Rattle.grammar.specs.declared.Scanner.{Scanner}

abbrev pub between : Context → Scanner
between c = record { context = c; place = Between }

-- WHAT A BYTE OPENS: nothing that is known, a command, or 1D's second byte
pub data Opening : Type 0 where
  Unknown : Opening
  Known : Command → Opening
  Extension : Opening

-- the row of it in a table
abbrev pub row_of : ℕ → List Command → Opening
row_of b [] = Unknown
row_of b (k ∷ ks) = cond (eqb b k.code) (Known k) (row_of b ks)

-- a byte between items, and a byte after 1D
unfoldable pub opening_of : ℕ → Opening
opening_of b = cond (eqb b 0x1D) Extension (row_of b commands)

unfoldable pub extension_of : ℕ → Opening
extension_of b = row_of b extended_commands

-- ONE BYTE

-- after the byte b, where so many more of its item are to come
abbrev pub going : ContextChange → ℕ → ℕ → Context → Scanner
going e zero b c = between (context_after e b c)
going e (suc n) b c = record { context = c; place = Inside e n }

abbrev pub opened : Opening → Context → ℕ → Result Scanner ℕ
opened Unknown c b = Err unknown_command
opened (Known k) c b = cond (legal k.needs c) (Ok (going k.change (count k.operands c) b c)) (Err (code_for k.needs c))
opened Extension c b = Ok (record { context = c; place = Extended })

abbrev pub scan_at : Place → Context → ℕ → Result Scanner ℕ
scan_at Between c b = opened (opening_of b) c b
scan_at Extended c b = opened (extension_of b) c b
scan_at (Inside e n) c b = Ok (going e n b c)

abbrev pub scan : Scanner → ℕ → Result Scanner ℕ
scan g b = scan_at g.place g.context b

-- MANY BYTES: where the scanner stands after them, or the first rejected place and the code returned there
pub data Course : Type 0 where
  through : Scanner → Course
  rejected_at : ℕ → ℕ → Course

abbrev pub later : Course → Course
later (through g) = through g
later (rejected_at k w) = rejected_at (suc k) w

abbrev pub resume : Result Scanner ℕ → (Scanner → Course) → Course
resume (Ok g) f = later (f g)
resume (Err w) f = rejected_at zero w

abbrev pub scan_all : Scanner → List ℕ → Course
scan_all g [] = through g
scan_all g (b ∷ bs) = resume (scan g b) (λ (h : Scanner). scan_all h bs)
