-- The goals that the search leaves.
use borrow.Author.Tests.{eqb-true, eqb-false}
use Prim.Native.Nat.{◌+◌, ◌-◌, ◌≤◌, ◌<◌, min}
use mathlib.Core.Path.{◌≡◌, sym, ◌∙◌}
use native.Mathlib.Omega.{arith}
use lib.ListN.{length, take, drop}
use Rattle.std.proofs.lemmas.Grind.{common_steps}
use Rattle.script.proofs.Cutting.{kind_written, cutting_first, cutting_full, cutting_done, cutting_on}
use Rattle.script.proofs.cut.put_records.Goals as goal

pub loop-out-init : goal.loop-out-init
loop-out-init c =
    let a = c.args in cutting_first a.kind a.body.now a.place a.out.now a.at c.requires

pub returns-then-out-size : goal.returns-then-out-size
returns-then-out-size c =
    let l = c.loop-out in
    let a = c.args in
    let m : c.min.result ≡ min (length l.rest.now) 4096 = grind (arith, common_steps) in
    let k : length l.out - l.size < 4 + length (take c.min.result l.rest.now) = rw (← c.split_at.ensures.front) c.if-out-size.true in
    rw c.full.ensures (cutting_full a.kind a.body.now a.place a.out.now a.at l.out l.rest.now l.size l.invariant c.min.result m k)

pub returns-then-is_empty : goal.returns-then-is_empty
returns-then-is_empty c =
    let l = c.loop-out in
    let a = c.args in
    let m : c.min.result ≡ min (length l.rest.now) 4096 = grind (arith, common_steps) in
    let k : 4 + length (take c.min.result l.rest.now) ≤ length l.out - l.size = rw (← c.split_at.ensures.front) c.if-out-size.false in
    let w = rw (kind_written a.kind) at c.put_record-size.ensures in
    let z : length (drop c.min.result l.rest.now) ≡ 0 = rw (← c.split_at.ensures.back) (eqb-true _ 0 (sym c.is_empty.ensures ∙ c.if-is_empty.true)) in
    cutting_done a.kind a.body.now a.place a.out.now a.at l.out l.rest.now l.size l.invariant c.min.result m k _ _ (rw c.split_at.ensures.front at w) z

pub loop-out-preserved : goal.loop-out-preserved
loop-out-preserved c =
    let l = c.loop-out in
    let a = c.args in
    let m : c.min.result ≡ min (length l.rest.now) 4096 = grind (arith, common_steps) in
    let k : 4 + length (take c.min.result l.rest.now) ≤ length l.out - l.size = rw (← c.split_at.ensures.front) c.if-out-size.false in
    let w = rw (kind_written a.kind) at c.put_record-size.ensures in
    let z : length (drop c.min.result l.rest.now) ≡ 0 → ⊥ = rw (← c.split_at.ensures.back) (eqb-false _ 0 (sym c.is_empty.ensures ∙ c.if-is_empty.false)) in
    rw c.split_at.ensures.back (cutting_on a.kind a.body.now a.place a.out.now a.at l.out l.rest.now l.size l.invariant c.min.result m k _ _ (rw c.split_at.ensures.front at w) z)
