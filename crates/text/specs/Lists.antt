-- A list of bytes in a script: each two hex digits, and `BYTE x COUNT` for so many of it, up to the line's end.
use Rattle.std.specs.Prelude.{ℕ, zero, suc, ◌+◌, ◌-◌, ◌≤◌, ◌≡◌, cond, List, [], ◌∷◌, ◌++◌, Option, Some, None, Result, Ok, Err, eqb, leb, length, replicate}
use Rattle.wire.specs.Buffer.{overwrite}
use Rattle.text.specs.Words.{Word, word_at, text_of, same, hex_of, count_of}
use Rattle.text.specs.declared.Expected.{Expected}
use Rattle.text.specs.declared.Expected.TheVariants as x
use Rattle.text.specs.declared.lists.Run.{Run}
pub use Rattle.text.specs.declared.Wrong.{Wrong}
pub use Rattle.text.specs.declared.Assembled.{Assembled}

-- WHAT IS READ: bytes, and whether something is wrong behind them
abbrev pub Outcome : Type 0
Outcome = Result (Unit {0}) Wrong

pub record Read : Type 0 where
  pub bytes : List ℕ
  pub outcome : Outcome

abbrev pub read : List ℕ → Outcome → Read
read xs w = record { bytes = xs; outcome = w }

abbrev pub wrong_at : ℕ → Expected → Wrong
wrong_at p e = record { place = p; expected = e }

-- with bytes that were read before it
abbrev pub prefixed : List ℕ → Read → Read
prefixed xs r = read (xs ++ r.bytes) r.outcome

-- ONE ITEM of a list: a byte, or so many of it, and the place after it
abbrev pub run : ℕ → ℕ → ℕ → Run
run b k next = record { byte = b; count = k; next = next }

abbrev pub counted : ℕ → Word → Option ℕ → Result Run Wrong
counted b w (Some k) = Ok (run b k w.end)
counted b w None = Err (wrong_at w.start x.Count)

abbrev pub with_count : List ℕ → ℕ → Word → Result Run Wrong
with_count t b w = counted b w (count_of (text_of t w))

abbrev pub repeated : List ℕ → ℕ → ℕ → Word → Result Run Wrong
repeated t b end w = cond (same (text_of t w) (0x78 ∷ [])) (with_count t b (word_at t w.end)) (Ok (run b 1 end))

-- an item, or None at the list's end
abbrev pub item : Result Run Wrong → Result (Option Run) Wrong
item (Ok r) = Ok (Some r)
item (Err e) = Err e

abbrev pub started : List ℕ → Word → Option ℕ → Result (Option Run) Wrong
started t w (Some b) = item (repeated t b w.end (word_at t w.end))
started t w None = Err (wrong_at w.start x.Byte)

abbrev pub begun : List ℕ → Word → Result (Option Run) Wrong
begun t w = cond (eqb w.start w.end) (Ok None) (started t w (hex_of (text_of t w)))

unfoldable pub item_at : List ℕ → ℕ → Result (Option Run) Wrong
item_at t p = begun t (word_at t p)

-- with an item read, at a place with room for so many bytes: it and the rest of the list, or the list's end
abbrev pub item_and_rest : ℕ → ℕ → (ℕ → ℕ → Read) → Result (Option Run) Wrong → Read
item_and_rest room p rest (Ok (Some r)) = cond (leb r.count room) (prefixed (replicate r.count r.byte) (rest (room - r.count) r.next)) (read [] (Err (wrong_at p x.Room)))
item_and_rest room p rest (Ok None) = read [] (Ok tt)
item_and_rest room p rest (Err w) = read [] (Err w)

-- THE LIST with room for so many bytes from a place on, in so many items. An item takes a byte of the text or is the last, so the
-- text's length and one are enough.
unfoldable pub list_for : ℕ → List ℕ → ℕ → ℕ → Read
list_for zero t room p = read [] (Ok tt)
list_for (suc n) t room p = item_and_rest room p (list_for n t) (item_at t p)

unfoldable pub list_of : List ℕ → ℕ → ℕ → Read
list_of t room p = list_for (suc (length t)) t room p

-- what was read is in a buffer that held o and then holds x, from a place n on
pub record Reads (d : Read) (o : List ℕ) (n : ℕ) (x : List ℕ) (r : Assembled) : Type 0 where
  pub bytes : x ≡ overwrite o n d.bytes
  pub size : r.size ≡ n + length d.bytes
  pub outcome : r.outcome ≡ d.outcome
  pub within : r.size ≤ length o
