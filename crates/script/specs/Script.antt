-- A whole script, line after line.
use Rattle.std.specs.Prelude.{ℕ, zero, suc, ◌-◌, cond, List, [], Ok, Err, leb, length}
use Rattle.grammar.specs.Grammar.{factory_context}
use Rattle.grammar.specs.declared.following.Stream.{Stream}
use Rattle.grammar.specs.Following.{undisturbed, after_fault, after_bytes}
use Rattle.records.specs.declared.kinds.Kind.{Kind}
use Rattle.records.specs.declared.kinds.Kind.TheVariants.{Bytes, Fault, Samples}
use Rattle.text.specs.Words.{past, in_line}
use Rattle.text.specs.Lists.{Read, Outcome, read, prefixed}
use Rattle.script.specs.Cuts.{cut_of}
use Rattle.script.specs.Statements.{Statement, nothing, bytes, wrong, statement_at}

-- the records of a statement at a place, with room for so many bytes
abbrev pub records_of : ℕ → ℕ → Statement → Read
records_of room p nothing = read [] (Ok tt)
records_of room p (bytes kind xs) = cut_of kind xs room p
records_of room p (wrong w) = read [] (Err w)

-- where the stream stands after a statement: bytes, a line fault, or samples, which hand over nothing
abbrev pub handed_bytes : Stream → Kind → List ℕ → Stream
handed_bytes g Bytes xs = after_bytes g xs
handed_bytes g Fault xs = after_fault g
handed_bytes g Samples xs = g

abbrev pub handed : Stream → Statement → Stream
handed g nothing = g
handed g (bytes kind xs) = handed_bytes g kind xs
handed g (wrong w) = g

-- what is read, and then the rest unless something is wrong
abbrev pub going_on : List ℕ → Outcome → Read → Read
going_on xs (Ok _) rest = prefixed xs rest
going_on xs (Err w) rest = read xs (Err w)

-- THE SCRIPT from a place on, where the stream so far stands, in so many lines. A line takes a byte of the text, so the text's
-- length and one are enough.
unfoldable pub script_for : ℕ → List ℕ → Stream → ℕ → ℕ → Read
script_for zero t g room p = read [] (Ok tt)
script_for (suc n) t g room p =
    let st = statement_at t g.scanner.context p in
    let d = records_of room p st in
    cond (leb (length t) p) (read [] (Ok tt))
    (going_on d.bytes d.outcome (script_for n t (handed g st) (room - length d.bytes) (suc (past t in_line p))))

-- .. from the factory start, where every session begins
unfoldable pub script_of : List ℕ → ℕ → Read
script_of t room = script_for (suc (length t)) t (undisturbed factory_context) room 0
