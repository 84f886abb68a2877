-- Test by test, the definition's answer.
use mathlib.Core.Path.{sym, ◌∙◌}
use Rattle.wire.proofs.Buffers.{part_start}
use Rattle.registers.proofs.InRange.{range_test}
use Rattle.bridge.specs.Answering.{lent}
use Rattle.bridge.proofs.Answers.{stopped, refuse_ranges, refuse_past, refuse_used, refuse_actions, refuse_replies, admitted}
use Rattle.bridge.proofs.Bridge.admit.Goals as goal

pub returns-then-not-in_range : goal.returns-then-not-in_range
returns-then-not-in_range c =
    refuse_ranges c.args.self c.args.event (lent c.args.samples.now c.args.sampled c.args.actions.now c.args.acted c.args.replies.now c.args.replied) (sym c.in_range.ensures ∙ c.if-not-in_range.true)

pub returns-in_err-fit : goal.returns-in_err-fit
returns-in_err-fit c =
    let l = lent c.args.samples.now c.args.sampled c.args.actions.now c.args.acted c.args.replies.now c.args.replied in
    let h = sym c.in_range.ensures ∙ c.if-not-in_range.false in
    stopped c.args.self c.args.event l c.from_residual.result c.from_residual.ensures.1 c.in_err-fit.ensures.err.1 (refuse_past c.args.self c.args.event l h c.in_err-fit.ensures.err.0)

pub measure-r-requires : goal.measure-r-requires
measure-r-requires c =
    ((range_test c.args.self.state).0 (sym c.in_range.ensures ∙ c.if-not-in_range.false), part_start _ _ _ c.in_ok-fit.ensures.ok)

pub returns-in_err-fit-2 : goal.returns-in_err-fit-2
returns-in_err-fit-2 c =
    let l = lent c.args.samples.now c.args.sampled c.args.actions.now c.args.acted c.args.replies.now c.args.replied in
    let h = sym c.in_range.ensures ∙ c.if-not-in_range.false in
    stopped c.args.self c.args.event l c.from_residual-in_err-fit-2.result c.from_residual-in_err-fit-2.ensures.1 c.in_err-fit-2.ensures.err.1 (refuse_used c.args.self c.args.event l h c.measure-r.ensures c.in_err-fit-2.ensures.err.0)

pub returns-in_err-fit-3 : goal.returns-in_err-fit-3
returns-in_err-fit-3 c =
    let l = lent c.args.samples.now c.args.sampled c.args.actions.now c.args.acted c.args.replies.now c.args.replied in
    let h = sym c.in_range.ensures ∙ c.if-not-in_range.false in
    stopped c.args.self c.args.event l c.from_residual-in_err-fit-3.result c.from_residual-in_err-fit-3.ensures.1 c.in_err-fit-3.ensures.err.1 (refuse_actions c.args.self c.args.event l h c.measure-r.ensures c.in_ok-fit-2.ensures.ok c.in_err-fit-3.ensures.err.0)

pub returns-in_err-fit-4 : goal.returns-in_err-fit-4
returns-in_err-fit-4 c =
    let l = lent c.args.samples.now c.args.sampled c.args.actions.now c.args.acted c.args.replies.now c.args.replied in
    let h = sym c.in_range.ensures ∙ c.if-not-in_range.false in
    stopped c.args.self c.args.event l c.from_residual-in_err-fit-4.result c.from_residual-in_err-fit-4.ensures.1 c.in_err-fit-4.ensures.err.1 (refuse_replies c.args.self c.args.event l h c.measure-r.ensures c.in_ok-fit-2.ensures.ok c.in_ok-fit-3.ensures.ok c.in_err-fit-4.ensures.err.0)

pub returns : goal.returns
returns c =
    let l = lent c.args.samples.now c.args.sampled c.args.actions.now c.args.acted c.args.replies.now c.args.replied in
    let h = sym c.in_range.ensures ∙ c.if-not-in_range.false in
    admitted c.args.self c.args.event l h c.measure-r.ensures c.in_ok-fit-2.ensures.ok c.in_ok-fit-3.ensures.ok c.in_ok-fit-4.ensures.ok
