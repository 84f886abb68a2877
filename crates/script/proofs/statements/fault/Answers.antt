-- The name and the line's end.
use Rattle.std.proofs.Common.{arith, ◌≡◌, ℕ, List, Some, sym, ap, ◌∙◌}
use Rattle.text.specs.Words.{text_of}
use Rattle.script.specs.Statements.{fault_named}
use Rattle.script.proofs.Parsing.{parses_fault}
use Rattle.script.proofs.statements.fault.Goals as goal

pub returns : goal.returns
returns c =
    let a = c.args in
    let e : fault_named (text_of a.text.now a.w) ≡ Some c.in_ok-code.code = ap (λ (x : List ℕ). fault_named x) (sym c.bytes.ensures) ∙ sym c.fault_named.ensures ∙ c.in_ok-code.ensures.ok_part in
    rw (e, ← c.word_at-end.ensures, sym c.is_none.ensures ∙ c.if-not-is_none.false) (parses_fault c.in_ok-code.code {o = a.body.now} (omega arith) c.put_bytes-size.ensures)
