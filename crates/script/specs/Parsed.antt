-- For the contracts of the functions that parse a statement and leave its bytes in a buffer: which statement an answer of theirs means,
-- and what they answer of a list that was read there.
use Rattle.std.specs.Prelude.{ℕ, ◌-◌, ◌≤◌, ◌≡◌, cond, List, Option, Some, None, Result, Ok, Err, eqb, length, take}
use Rattle.records.specs.declared.kinds.Kind.{Kind}
use Rattle.records.specs.declared.kinds.Kind.TheVariants.{Bytes}
use Rattle.grammar.specs.declared.Context.{Context}
use Rattle.text.specs.declared.Assembled.{Assembled}
use Rattle.text.specs.Lists.{Outcome, wrong_at}
use Rattle.text.specs.declared.Wrong.{Wrong}
use Rattle.text.specs.declared.Expected.TheVariants as x
use Rattle.script.specs.Statements.{Statement, nothing, bytes, wrong, takes}
use Rattle.script.specs.declared.statements.Parsed.{Parsed}

abbrev pub Answer : Type 0
Answer = Result (Option Parsed) Wrong

abbrev pub parsed : Kind → ℕ → Answer
parsed kind n = Ok (Some (record { kind = kind; size = n }))

-- the statement that was parsed, its bytes at the front of a buffer that holds l
abbrev pub meant : List ℕ → Answer → Statement
meant l (Ok (Some r)) = bytes r.kind (take r.size l)
meant l (Ok None) = nothing
meant l (Err w) = wrong w

abbrev pub InBuffer : List ℕ → Answer → Type 0
InBuffer l (Ok (Some r)) = r.size ≤ length l
InBuffer l (Ok None) = Unit {0}
InBuffer l (Err w) = Unit {0}

pub record Parses (st : Statement) (l : List ℕ) (r : Answer) : Type 0 where
  pub is : st ≡ meant l r
  pub within : InBuffer l r

-- what is parsed of a list after a keyword, and of a command with its operands
abbrev pub list_ended : Kind → ℕ → ℕ → Outcome → Answer
list_ended kind p n (Ok _) = cond (eqb n 0) (Err (wrong_at p x.Byte)) (parsed kind n)
list_ended kind p n (Err w) = Err w

abbrev pub list_parsed : Kind → ℕ → Assembled → Answer
list_parsed kind p r = list_ended kind p r.size r.outcome

abbrev pub command_ended : Context → ℕ → ℕ → ℕ → ℕ → Outcome → Answer
command_ended c row p from n (Ok _) = cond (eqb (n - from) (takes c row)) (parsed Bytes n) (Err (wrong_at p (x.Operands (takes c row))))
command_ended c row p from n (Err w) = Err w

abbrev pub command_parsed : Context → ℕ → ℕ → ℕ → Assembled → Answer
command_parsed c row p from r = command_ended c row p from r.size r.outcome
