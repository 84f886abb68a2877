-- A record's body lies within what the step wrote.
use Rattle.std.proofs.Common.{sym, ap, ◌∙◌, arith, Ok}
use Rattle.records.proofs.Bodies.{body_within}
use Rattle.vcd.proofs.first_record.Goals as goal

pub slice_bounds-result-count : goal.slice_bounds-result-count
slice_bounds-result-count c =
    let s = c.in-Ok-Some in (body_within c.args.records.now 0 (sym c.record_at.ensures ∙ s.is ∙ ap Ok s.field-0-is)).0

pub slice_bounds-result-start : goal.slice_bounds-result-start
slice_bounds-result-start c =
    let s = c.in-Ok-Some in let w = body_within c.args.records.now 0 (sym c.record_at.ensures ∙ s.is ∙ ap Ok s.field-0-is) in omega (arith, w.0, w.1)

pub slice_bounds-result-end : goal.slice_bounds-result-end
slice_bounds-result-end c =
    let s = c.in-Ok-Some in (body_within c.args.records.now 0 (sym c.record_at.ensures ∙ s.is ∙ ap Ok s.field-0-is)).1
