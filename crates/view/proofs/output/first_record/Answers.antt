-- A record's body lies within the output, and ends further on.
use Rattle.std.proofs.Common.{sym, ap, ◌∙◌, subst, arith, length-take, length-drop, Ok}
use Rattle.records.proofs.Bodies.{Within, record_within}
use Rattle.view.proofs.output.first_record.Goals as goal

pub slice_bounds-result-count : goal.slice_bounds-result-count
slice_bounds-result-count c =
    let s = c.in-Ok-Some in let w = subst (Within c.args.out.now 0) (sym c.record_at.ensures ∙ s.is ∙ ap Ok s.field-0-is) (record_within c.args.out.now 0) in w.1

pub slice_bounds-result-start : goal.slice_bounds-result-start
slice_bounds-result-start c =
    let s = c.in-Ok-Some in let w = subst (Within c.args.out.now 0) (sym c.record_at.ensures ∙ s.is ∙ ap Ok s.field-0-is) (record_within c.args.out.now 0) in omega (arith, w.1, w.2)

pub slice_bounds-result-end : goal.slice_bounds-result-end
slice_bounds-result-end c =
    let s = c.in-Ok-Some in let w = subst (Within c.args.out.now 0) (sym c.record_at.ensures ∙ s.is ∙ ap Ok s.field-0-is) (record_within c.args.out.now 0) in w.2

pub slice_bounds-result-count-2 : goal.slice_bounds-result-count-2
slice_bounds-result-count-2 c =
    let s = c.in-Ok-Some in let w = subst (Within c.args.out.now 0) (sym c.record_at.ensures ∙ s.is ∙ ap Ok s.field-0-is) (record_within c.args.out.now 0) in w.2

pub slice_bounds-result-start-2 : goal.slice_bounds-result-start-2
slice_bounds-result-start-2 c =
    let s = c.in-Ok-Some in let w = subst (Within c.args.out.now 0) (sym c.record_at.ensures ∙ s.is ∙ ap Ok s.field-0-is) (record_within c.args.out.now 0) in w.2

pub returns : goal.returns
returns c =
    let s = c.in-Ok-Some in let w = subst (Within c.args.out.now 0) (sym c.record_at.ensures ∙ s.is ∙ ap Ok s.field-0-is) (record_within c.args.out.now 0) in
    simp (length-take, length-drop) (omega (arith, w.2, w.3))
