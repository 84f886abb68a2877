-- A list of bytes cut into records.
use Rattle.std.specs.Prelude.{ℕ, zero, suc, ◌+◌, ◌-◌, cond, List, [], Ok, Err, leb, ltb, length, take, drop}
use Rattle.records.specs.declared.kinds.Kind.{Kind}
use Rattle.records.specs.declared.kinds.Kind.TheVariants.{Bytes, Fault, Samples}
use Rattle.records.specs.Records.{most_body, record_of}
use Rattle.text.specs.Lists.{Read, read, wrong_at, prefixed}
use Rattle.text.specs.declared.Assembled.{Assembled}
use Rattle.text.specs.declared.Expected.TheVariants as x

-- there is no room for what the script has at a place
abbrev pub no_room : ℕ → ℕ → Assembled
no_room size p = record { size = size; outcome = Err (wrong_at p x.Room) }

-- a kind's number in a record's header
abbrev pub kind_number : Kind → ℕ
kind_number Bytes = 1
kind_number Fault = 2
kind_number Samples = 3

-- RECORDS for a list of bytes, full ones but for the last, with room for so many bytes, or up to the first that does not fit
abbrev pub last_piece : ℕ → List ℕ → ℕ → ℕ → Read
last_piece kind xs room p = cond (ltb room (4 + length xs)) (read [] (Err (wrong_at p x.Room))) (read (record_of kind xs) (Ok tt))

unfoldable pub cut_for : ℕ → ℕ → List ℕ → ℕ → ℕ → Read
cut_for zero kind xs room p = read [] (Ok tt)
cut_for (suc n) kind xs room p =
    cond (leb (length xs) most_body) (last_piece kind xs room p)
    (cond (ltb room (4 + most_body)) (read [] (Err (wrong_at p x.Room))) (prefixed (record_of kind (take most_body xs)) (cut_for n kind (drop most_body xs) (room - (4 + most_body)) p)))

-- a piece takes bytes of the list, so its length and one are pieces enough
unfoldable pub cut_of : Kind → List ℕ → ℕ → ℕ → Read
cut_of kind xs room p = cut_for (suc (length xs)) (kind_number kind) xs room p
