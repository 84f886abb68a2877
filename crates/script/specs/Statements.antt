-- The statements of a script, one a line: `send` and `samples` with a list of bytes, `fault` with its name, or a command's name
-- with its operands.
use Rattle.std.specs.Prelude.{ℕ, ◌-◌, cond, List, [], ◌∷◌, ◌++◌, Option, Some, None, Ok, Err, eqb, length}
use Rattle.padding.specs.Padding.{bytes as text}
use Rattle.names.specs.Names.{code_at, is_extended}
use Rattle.records.specs.declared.kinds.Kind.{Kind}
use Rattle.records.specs.declared.kinds.Kind.TheVariants.{Bytes, Fault, Samples}
use Rattle.registers.specs.Registers.{fault_code}
use Rattle.registers.specs.declared.Fault.TheVariants.{Frame, Overrun, Parity}
use Rattle.grammar.specs.declared.Context.{Context}
use Rattle.grammar.specs.Following.{operands_in}
use Rattle.text.specs.Words.{word_at, text_of, same}
use Rattle.text.specs.declared.words.Word.{Word}
use Rattle.text.specs.Lists.{Read, Outcome, wrong_at, list_of}
use Rattle.text.specs.declared.Wrong.{Wrong}
use Rattle.text.specs.Named.{row_named}
use Rattle.text.specs.declared.Expected.TheVariants as x

-- the most bytes of a session, and so of a list; the session's own 32,768 (01, refusal 10) is in a crate above this one
abbrev pub most : ℕ
most = 32768

-- WHAT A LINE SAYS: nothing, bytes for records of a kind, or what is wrong at a place
pub data Statement : Type 0 where
  nothing : Statement
  bytes : Kind → List ℕ → Statement
  wrong : Wrong → Statement

-- a list after a keyword that ends at a place: one byte at the least
abbrev pub list_statement : Kind → ℕ → List ℕ → Outcome → Statement
list_statement kind p xs (Ok _) = cond (eqb (length xs) 0) (wrong (wrong_at p x.Byte)) (bytes kind xs)
list_statement kind p xs (Err w) = wrong w

-- a fault's code by its name
abbrev pub fault_named : List ℕ → Option ℕ
fault_named w =
    cond (same w (text "frame")) (Some (fault_code Frame)) (cond (same w (text "overrun")) (Some (fault_code Overrun)) (cond (same w (text "parity")) (Some (fault_code Parity)) None))

-- .. and then the line's end
abbrev pub fault_statement : ℕ → Word → Statement
fault_statement code v = cond (eqb v.start v.end) (bytes Fault (code ∷ [])) (wrong (wrong_at v.start x.LineEnd))

abbrev pub coded_fault : List ℕ → Word → Option ℕ → Statement
coded_fault t w (Some code) = fault_statement code (word_at t w.end)
coded_fault t w None = wrong (wrong_at w.start x.Fault)

abbrev pub fault_at : List ℕ → Word → Statement
fault_at t w = coded_fault t w (fault_named (text_of t w))

-- a command's bytes before its operands: 1D before an extended one
abbrev pub opening : ℕ → List ℕ
opening row = cond (is_extended row) (0x1D ∷ code_at row ∷ []) (code_at row ∷ [])

-- how many operands a command takes where it stands: a packet's depend on the size that earlier bytes set
abbrev pub takes : Context → ℕ → ℕ
takes c row = operands_in c (code_at row) (is_extended row)

abbrev pub command_statement : Context → ℕ → ℕ → List ℕ → Outcome → Statement
command_statement c row p xs (Ok _) = cond (eqb (length xs) (takes c row)) (bytes Bytes (opening row ++ xs)) (wrong (wrong_at p (x.Operands (takes c row))))
command_statement c row p xs (Err w) = wrong w

-- .. with its operands behind its name, as they are read
abbrev pub with_operands : Context → ℕ → ℕ → Read → Statement
with_operands c row p r = command_statement c row p r.bytes r.outcome

-- a command whose name is the word, if there is one
abbrev pub command_at : List ℕ → Context → Word → Option ℕ → Statement
command_at t c w (Some row) = with_operands c row w.start (list_of t (most - length (opening row)) w.end)
command_at t c w None = wrong (wrong_at w.start x.Statement)

-- THE STATEMENT by its first word, and at a place of the text, in the context that the bytes before it lead to
abbrev pub list_at : List ℕ → Kind → ℕ → Statement
list_at t kind p = list_statement kind p (list_of t most p).bytes (list_of t most p).outcome

abbrev pub statement_by : List ℕ → Context → Word → Statement
statement_by t c w =
    cond (eqb w.start w.end) nothing
    (cond (same (text_of t w) (text "send")) (list_at t Bytes w.end)
    (cond (same (text_of t w) (text "samples")) (list_at t Samples w.end)
    (cond (same (text_of t w) (text "fault")) (fault_at t (word_at t w.end))
    (command_at t c w (row_named (text_of t w))))))

unfoldable pub statement_at : List ℕ → Context → ℕ → Statement
statement_at t c p = statement_by t c (word_at t p)
