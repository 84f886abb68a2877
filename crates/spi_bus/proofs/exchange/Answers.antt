-- The goals that the search leaves.
use borrow.Author.Rules.{rules}
use mathlib.Core.Path.{◌≡◌, sym, ◌∙◌}
use Prim.Native.Nat.{◌-◌}
use native.Mathlib.Omega.{arith}
use lib.ListN.{length, length-set}
use Rattle.packet.specs.Register.{register}
use Rattle.packet.specs.Packet.{width, register_bytes, bits_received}
use Rattle.packet.proofs.Bytes.{length_register}
use Rattle.packet.proofs.Filled.{received_at, fill_start, fill_turn}
use Rattle.packet.proofs.Shifts.{exchange_right}
use Rattle.lines.specs.Lines.{levels}
use Rattle.lines.proofs.Levels.{length_levels}
use Rattle.spi_bus.proofs.exchange.Goals as goal

pub loop-i-init : goal.loop-i-init
loop-i-init c =
    (search rules, omega (arith, c.requires), fill_start register_bytes c.args.r (bits_received width c.args.high (levels c.args.samples.now 0 c.args.n)) (search rules))

pub loop-i-preserved : goal.loop-i-preserved
loop-i-preserved c =
    let n = c.args.n in
    let i = c.loop-i.i in
    let ls = levels c.args.samples.now 0 n in
    let bs = bits_received width c.args.high ls in
    let l : length (register register_bytes bs) ≡ register_bytes = length_register register_bytes bs in (
      simp length-set (omega arith),
      omega arith,
      fill_turn c.loop-i.q (register register_bytes bs) i _ (search rules) (omega arith) (omega arith) (c.number_of.ensures ∙ received_at register_bytes n (i - 1) c.above_byte-first.result c.loop-i.end c.args.high ls (length_levels c.args.samples.now 0 n) (omega arith) (omega arith) (omega arith)) c.loop-i.invariant.2,
    )

pub returns : goal.returns
returns c =
    let ls = levels c.args.samples.now 0 c.args.n in
    let z : c.loop-i.i ≡ 0 = omega arith in
    (rw z at c.loop-i.invariant.2) ∙ sym (exchange_right width c.args.high ls c.args.r (omega arith) (omega (arith, length_levels c.args.samples.now 0 c.args.n))).holds
