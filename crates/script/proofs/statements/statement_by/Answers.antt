-- By the first word: none, a keyword, or a name.
use mathlib.Core.Path.{sym, refl, ◌∙◌}
use Rattle.padding.specs.Padding.{bytes as text}
use Rattle.text.proofs.Sameness.{same_is}
use Rattle.script.proofs.statements.statement_by.Goals as goal

pub returns-then-is_none : goal.returns-then-is_none
returns-then-is_none c =
    rw (sym c.is_none.ensures ∙ c.if-is_none.true) (record { is = refl; within = tt })

pub returns-then-same : goal.returns-then-same
returns-then-same c =
    let w = c.bytes-word.result.now in
    rw (sym c.is_none.ensures ∙ c.if-is_none.false, ← c.bytes-word.ensures, sym (same_is w (text "send") c.same.ensures) ∙ c.if-same.true) c.list_at.ensures

pub returns-then-same-2 : goal.returns-then-same-2
returns-then-same-2 c =
    let w = c.bytes-word.result.now in
    rw (sym c.is_none.ensures ∙ c.if-is_none.false, ← c.bytes-word.ensures, sym (same_is w (text "send") c.same.ensures) ∙ c.if-same.false, sym (same_is w (text "samples") c.same-2.ensures) ∙ c.if-same-2.true) c.list_at-then-same-2.ensures

pub returns-then-same-3 : goal.returns-then-same-3
returns-then-same-3 c =
    let w = c.bytes-word.result.now in
    rw (sym c.is_none.ensures ∙ c.if-is_none.false, ← c.bytes-word.ensures, sym (same_is w (text "send") c.same.ensures) ∙ c.if-same.false, sym (same_is w (text "samples") c.same-2.ensures) ∙ c.if-same-2.false, sym (same_is w (text "fault") c.same-3.ensures) ∙ c.if-same-3.true) (rw c.word_at.ensures at c.fault.ensures)

pub returns : goal.returns
returns c =
    let w = c.bytes-word.result.now in
    rw (sym c.is_none.ensures ∙ c.if-is_none.false, ← c.bytes-word.ensures, sym (same_is w (text "send") c.same.ensures) ∙ c.if-same.false, sym (same_is w (text "samples") c.same-2.ensures) ∙ c.if-same-2.false, sym (same_is w (text "fault") c.same-3.ensures) ∙ c.if-same-3.false) (rw c.row_named.ensures at c.command.ensures)
