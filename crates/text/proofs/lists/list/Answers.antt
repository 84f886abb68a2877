-- The goals that the search leaves.
use mathlib.Core.Path.{sym, ◌∙◌}
use native.Mathlib.Omega.{arith}
use Rattle.text.proofs.Listing.{item_next, listing_first, listing_end, listing_wrong, listing_full, listing_on}
use Rattle.text.proofs.lists.list.Goals as goal

pub loop-run-init : goal.loop-run-init
loop-run-init c =
    listing_first c.args.text.now c.args.at c.args.body.now c.args.from c.requires

pub returns-in-Ok-None : goal.returns-in-Ok-None
returns-in-Ok-None c =
    let l = c.loop-run in let a = c.args in listing_end a.text.now a.at a.body.now a.from l.body l.p l.size l.invariant (sym c.item_at.ensures ∙ cc)

pub returns-in-Err : goal.returns-in-Err
returns-in-Err c =
    let l = c.loop-run in let a = c.args in listing_wrong a.text.now a.at a.body.now a.from l.body l.p l.size l.invariant (sym c.item_at.ensures ∙ c.in-Err.is)

pub returns-then-body-size : goal.returns-then-body-size
returns-then-body-size c =
    let l = c.loop-run in let a = c.args in listing_full a.text.now a.at a.body.now a.from l.body l.p l.size l.invariant {r = c.in-Ok-Some.run'} (sym c.item_at.ensures ∙ cc) c.if-body-size.true

pub loop-run-smaller : goal.loop-run-smaller
loop-run-smaller c =
    let l = c.loop-run in let a = c.args in let q = item_next a.text.now l.p {r = c.in-Ok-Some.run'} (sym c.item_at.ensures ∙ cc) in omega (arith, q.0, q.1)

pub loop-run-preserved : goal.loop-run-preserved
loop-run-preserved c =
    let l = c.loop-run in let a = c.args in listing_on a.text.now a.at a.body.now a.from l.body l.p l.size l.invariant {r = c.in-Ok-Some.run'} (sym c.item_at.ensures ∙ cc) c.if-body-size.false _ _ c.fill-size.ensures
