-- A byte that does not pass, one more that does, or the text's end.
use Rattle.std.proofs.Common.{rules, arith, ◌≡◌, sym, ◌∙◌, length, max}
use Rattle.text.proofs.Spans.{past_more, past_stop, past_end}
use Rattle.text.proofs.words.run_end.Goals as goal

pub returns-then-not-passes : goal.returns-then-not-passes
returns-then-not-passes g c =
    λ p t.
    let l = c.loop-i in
    sym (past_stop p c.args.text.now l.i (omega arith) (sym (t _ _ (search rules) c.passes.ensures) ∙ c.if-not-passes.true)) ∙ l.invariant.1 p t

pub loop-i-preserved : goal.loop-i-preserved
loop-i-preserved g c =
    let l = c.loop-i in
    (omega arith, λ p t. sym (past_more p c.args.text.now l.i (omega arith) (sym (t _ _ (search rules) c.passes.ensures) ∙ c.if-not-passes.false)) ∙ l.invariant.1 p t)

pub returns : goal.returns
returns g c =
    λ p t.
    let l = c.loop-i in
    let e : max (length c.args.text.now) c.args.at ≡ l.i = omega arith in
    rw (c.max.ensures, e) (sym (past_end p c.args.text.now l.i (omega arith)) ∙ l.invariant.1 p t)
