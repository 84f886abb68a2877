-- The goals that the search leaves.
use borrow.Author.Rules.{rules}
use mathlib.Core.Path.{refl, sym, ◌∙◌}
use native.Mathlib.Omega.{arith}
use Rattle.grammar.proofs.Scans.{turn_wrong, turn_extension, turn_open, turn_item, turn_end}
use Rattle.grammar.proofs.judge.Goals as goal

pub loop-i-init : goal.loop-i-init
loop-i-init c =
    (omega arith, refl)

pub returns-then-not-is_legal : goal.returns-then-not-is_legal
returns-then-not-is_legal c =
    let s = c.loop-i in
    turn_wrong c.args.bytes.now _ s.at _ s.extended s.i c.loop-i-test.true refl s.invariant.1 (sym c.is_legal.ensures ∙ c.if-not-is_legal.true) _ c.code_for-code.ensures

pub loop-i-preserved-then-b-extended : goal.loop-i-preserved-then-b-extended
loop-i-preserved-then-b-extended c =
    let s = c.loop-i in (
      search rules,
      turn_extension c.args.bytes.now _ s.at _ s.extended s.i c.loop-i-test.true refl s.invariant.1 c.if-b-extended.true,
    )

pub returns-then-bytes-i : goal.returns-then-bytes-i
returns-then-bytes-i c =
    let s = c.loop-i in
    turn_open c.args.bytes.now _ s.at _ s.extended s.i c.loop-i-test.true refl s.invariant.1 _ (sym c.is_legal.ensures ∙ c.if-not-is_legal.false) c.if-b-extended.false c.operands_of-n.ensures (omega arith)

pub loop-i-preserved : goal.loop-i-preserved
loop-i-preserved c =
    let s = c.loop-i in (
      search rules,
      turn_item c.args.bytes.now _ s.at _ s.extended s.i c.loop-i-test.true refl s.invariant.1 _ _ _ (sym c.is_legal.ensures ∙ c.if-not-is_legal.false) c.if-b-extended.false c.operands_of-n.ensures c.change_of.ensures (omega arith) c.context_after-at.ensures,
    )

pub returns-then-extended : goal.returns-then-extended
returns-then-extended c =
    turn_end c.args.bytes.now _ c.loop-i.at c.loop-i.extended _ c.loop-i.i (search rules) c.if-extended.true c.loop-i.invariant.1

pub returns : goal.returns
returns c =
    turn_end c.args.bytes.now _ c.loop-i.at c.loop-i.extended _ c.loop-i.i (search rules) c.if-extended.false c.loop-i.invariant.1
