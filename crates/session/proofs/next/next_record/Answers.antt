-- A record's body lies within the file.
use Rattle.std.proofs.Common.{◌≡◌, arith, ap, sym, ◌∙◌}
use Rattle.std.specs.Prelude.{Ok}
use Rattle.records.proofs.Bodies.{rest_within}
use Rattle.session.proofs.next.next_record.Goals as goal

pub slice_bounds-next_in-count : goal.slice_bounds-next_in-count
slice_bounds-next_in-count c =
    omega (arith, rest_within c.args.session.now c.args.at c.args.end (sym c.in_ok-body.ensures ∙ ap Ok c.in-Some.is))

pub slice_bounds-next_in-start : goal.slice_bounds-next_in-start
slice_bounds-next_in-start c =
    omega (arith, rest_within c.args.session.now c.args.at c.args.end (sym c.in_ok-body.ensures ∙ ap Ok c.in-Some.is))

pub slice_bounds-next_in-end : goal.slice_bounds-next_in-end
slice_bounds-next_in-end c =
    omega (arith, rest_within c.args.session.now c.args.at c.args.end (sym c.in_ok-body.ensures ∙ ap Ok c.in-Some.is))
