-- The refusals in 01's order (01, "Refusal numbers"): each with its number, and in the table's words.
use Rattle.std.specs.Prelude.{ℕ, ◌≡◌, List, [], ◌∷◌, map, get_or}
use Prim.Native.String.{String}
use Rattle.padding.specs.Padding.{bytes, blanks, padded}
pub use Rattle.refusals.specs.declared.Refusal.{Refusal}
pub use Rattle.refusals.specs.declared.Refusal.TheVariants.{Ranges, Samples, Actions, Replies, Header, Length, Passes, Kind, FaultBody, Size, Factory, Waits}

abbrev pub number_of : Refusal → ℕ
number_of Ranges = 1
number_of Samples = 2
number_of Actions = 3
number_of Replies = 4
number_of Header = 5
number_of Length = 6
number_of Passes = 7
number_of Kind = 8
number_of FaultBody = 9
number_of Size = 10
number_of Factory = 11
number_of Waits = 12

-- THEOREM (proofs/Numbers.antt, `in_order`): the numbers are those of the table's rows, from 1 on
abbrev pub refusals : List Refusal
refusals = Ranges ∷ Samples ∷ Actions ∷ Replies ∷ Header ∷ Length ∷ Passes ∷ Kind ∷ FaultBody ∷ Size ∷ Factory ∷ Waits ∷ []

abbrev pub InOrder : Type 0
InOrder = map number_of refusals ≡ 1 ∷ 2 ∷ 3 ∷ 4 ∷ 5 ∷ 6 ∷ 7 ∷ 8 ∷ 9 ∷ 10 ∷ 11 ∷ 12 ∷ []

-- the words of numbers 1 to 12; "12 also for a pending drop" (02, Ask 2)
abbrev pub table_words : List String
table_words =
    "the state breaks its ranges" ∷
    "fewer samples are left than the event uses" ∷
    "the actions do not fit" ∷
    "the replies do not fit" ∷
    "1 to 3 bytes left where a record header should be" ∷
    "record length over 4,096" ∷
    "record body passes the end" ∷
    "unknown kind" ∷
    "a fault body is not one byte of 81, 82, 83 hex" ∷
    "session over 32,768 bytes" ∷
    "factory image not good" ∷
    "judge's start waits for something or drops a byte" ∷
    []

-- a number's words, none for one that is no refusal's
unfoldable pub text_of : ℕ → List ℕ
text_of n = get_or ([] ∷ map (λ (w : String). bytes w) table_words) n []

-- the widest words
abbrev pub words_width : ℕ
words_width = 49

abbrev pub lines : List (List ℕ)
lines = blanks words_width ∷ map (λ (w : String). padded words_width (bytes w)) table_words

-- a number's words, padded with blanks to the widest; all blanks for one that is no refusal's
unfoldable pub words_of : ℕ → List ℕ
words_of n = get_or lines n (blanks words_width)
