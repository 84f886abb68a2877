-- The goals that the search leaves.
use borrow.Author.Rules.{rules}
use mathlib.Core.Path.{◌≡◌, refl, sym, ap, ◌∙◌}
use mathlib.Core.List.{[]}
use Prim.Native.Nat.{◌+◌, ◌-◌, ◌<◌}
use native.Mathlib.Omega.{arith}
use lib.ListN.{length, take, drop, length-take, drop_of_length-le}
use lib.Pow.{pow_pos}
use lib.Seq.{length-take-le, get_or-take}
use Rattle.packet.specs.Register.{number}
use Rattle.packet.specs.Packet.{order}
use Rattle.packet.proofs.Places.{length_order}
use Rattle.lines.specs.Lines.{levels}
use Rattle.lines.proofs.Levels.{length_levels, number_turn, number_below, seven_bits}
use Rattle.lines.proofs.readings.number_of.Goals as goal
use Rattle.lines.proofs.readings.number_of.Goals.{After-level_in}

small : (c : After-level_in) → c.loop-i.v < 128
small c = seven_bits _ _ c.loop-i.invariant.1 (omega arith)

pub loop-i-init : goal.loop-i-init
unfolding number
loop-i-init c =
    (omega arith, pow_pos _, refl)

pub overflow_add-v : goal.overflow_add-v
unfolding number
overflow_add-v c =
    omega (arith, small (goal.at.overflow_add-v c).After-level_in, c.level_in.ensures.1)

pub loop-i-preserved : goal.loop-i-preserved
unfolding number
loop-i-preserved c =
    let i = c.loop-i.i in
    let first = c.args.first in
    let end = c.args.end in
    let xs = order c.args.high (levels c.args.samples.now 0 c.args.n) in
    let e : length xs ≡ c.args.n = length_order c.args.high _ ∙ length_levels c.args.samples.now 0 c.args.n in
    let t : length (take end xs) ≡ end = length-take-le end xs (omega arith) in
    let k : i + 1 - first ≡ i - first + 1 = omega arith in (
      omega arith,
      rw k (number_below _ _ _ c.loop-i.invariant.1 c.level_in.ensures.1),
      number_turn c.loop-i.v (take end xs) i _ (omega arith) (c.level_in.ensures.0 ∙ sym (get_or-take end xs i 0 (search rules))) ∙ c.loop-i.invariant.2,
    )

pub returns : goal.returns
unfolding number
returns c =
    let xs = take c.args.end (order c.args.high (levels c.args.samples.now 0 c.args.n)) in
    let d : drop c.loop-i.i xs ≡ [] = drop_of_length-le xs {i = c.loop-i.i} (omega (arith, length-take c.args.end (order c.args.high (levels c.args.samples.now 0 c.args.n)))) in
    ap (number c.loop-i.v) (sym d) ∙ c.loop-i.invariant.2
