-- The goals that the search leaves.
use mathlib.Core.Path.{◌≡◌, refl, sym, ap, ◌∙◌}
use native.Mathlib.Omega.{arith}
use Rattle.std.specs.Prelude.{Some, None, Ok, Err}
use Rattle.text.specs.Words.{in_line}
use Rattle.text.proofs.Spans.{past_within}
use Rattle.text.proofs.Reading.{reads_none}
use Rattle.script.specs.Parsed.{Answer, meant}
use Rattle.script.proofs.Assembling.{assembling_first, assembling_end, assembling_wrong, assembling_on}
use Rattle.script.proofs.assemble.Goals as goal
use Rattle.script.proofs.assemble.Goals.{in-Some+else-is_err, in_default}

pub loop-at-init : goal.loop-at-init
loop-at-init c =
    let a = c.args in rw c.start-g.ensures (assembling_first a.text.now a.out.now)

pub returns-in-Err : goal.returns-in-Err
returns-in-Err c =
    let l = c.loop-at in
    let q = c.statement.ensures in
    assembling_wrong c.args.text.now c.args.out.now l.out l.g l.at l.size l.invariant c.loop-at-test.true _ (q.is ∙ ap (λ (r : Answer). meant c.statement.new.body r) c.in-Err.is) _ _ (reads_none l.out l.size (Err c.in-Err.wrong) (omega (arith, l.invariant.within, l.invariant.same))) refl

pub returns-then-is_err : goal.returns-then-is_err
returns-then-is_err c =
    let l = c.loop-at in
    let q = c.statement.ensures in
    let e : c.statement.result ≡ Ok (Some c.in-Some.said) = cc in
    assembling_wrong c.args.text.now c.args.out.now l.out l.g l.at l.size l.invariant c.loop-at-test.true _ (q.is ∙ ap (λ (r : Answer). meant c.statement.new.body r) e) _ _ c.put_records-put.ensures (sym c.is_err.ensures.value ∙ c.if-is_err.true)

pub overflow_add-at : goal.overflow_add-at
overflow_add-at c =
    record { fits = omega (arith, c.line_end-at.ensures, past_within c.args.text.now in_line c.loop-at.at (omega (arith, c.loop-at-test.true)), c.well_formed) }

pub loop-at-preserved : goal.loop-at-preserved
loop-at-preserved c =
    let l = c.loop-at in
    let q = c.statement.ensures in
    elim c.match-said.branch [
      | in-Some+else-is_err w ↦
          let e : c.statement.result ≡ Ok (Some w.in-Some.said) = cc in
          rw (w.out-is, w.g-is, w.size-is)
          (assembling_on c.args.text.now c.args.out.now l.out l.g l.at l.size l.invariant c.loop-at-test.true _ (q.is ∙ ap (λ (r : Answer). meant c.statement.new.body r) e) _ _ w.put_records-put.ensures (sym w.is_err.ensures.value ∙ w.if-is_err.false) _ w.hand_over-g.ensures _ c.line_end-at.ensures)
      | in_default w ↦
          let e : c.statement.result ≡ Ok None = cc in
          rw (w.out-is, w.g-is, w.size-is)
          (assembling_on c.args.text.now c.args.out.now l.out l.g l.at l.size l.invariant c.loop-at-test.true _ (q.is ∙ ap (λ (r : Answer). meant c.statement.new.body r) e) _ _ (reads_none l.out l.size (Ok tt) (omega (arith, l.invariant.within, l.invariant.same))) refl _ refl _ c.line_end-at.ensures)
    ]

pub returns : goal.returns
returns c =
    let l = c.loop-at in assembling_end c.args.text.now c.args.out.now l.out l.g l.at l.size l.invariant c.loop-at-test.false
