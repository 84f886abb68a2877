-- By the first name that is the word.
use Rattle.std.proofs.Common.{ℕ, Some, ap, sym, ◌∙◌}
use Rattle.padding.specs.Padding.{bytes as text}
use Rattle.text.proofs.Sameness.{same_is}
use Rattle.script.proofs.statements.fault_named.Goals as goal

pub returns-then-same : goal.returns-then-same
returns-then-same c =
    let w = c.args.word.now in
    rw (sym (same_is w (text "frame") c.same.ensures) ∙ c.if-same.true) (ap (λ (n : ℕ). Some n) c.from.ensures)

pub returns-then-same-2 : goal.returns-then-same-2
returns-then-same-2 c =
    let w = c.args.word.now in
    rw (sym (same_is w (text "frame") c.same.ensures) ∙ c.if-same.false, sym (same_is w (text "overrun") c.same-2.ensures) ∙ c.if-same-2.true) (ap (λ (n : ℕ). Some n) c.from-then-same-2.ensures)

pub returns-then-same-3 : goal.returns-then-same-3
returns-then-same-3 c =
    let w = c.args.word.now in
    rw (sym (same_is w (text "frame") c.same.ensures) ∙ c.if-same.false, sym (same_is w (text "overrun") c.same-2.ensures) ∙ c.if-same-2.false, sym (same_is w (text "parity") c.same-3.ensures) ∙ c.if-same-3.true) (ap (λ (n : ℕ). Some n) c.from-then-same-3.ensures)

pub returns : goal.returns
returns c =
    let w = c.args.word.now in
    rw (sym (same_is w (text "frame") c.same.ensures) ∙ c.if-same.false, sym (same_is w (text "overrun") c.same-2.ensures) ∙ c.if-same-2.false, sym (same_is w (text "parity") c.same-3.ensures) ∙ c.if-same-3.false)
