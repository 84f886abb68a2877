-- The shift register holds what was received; that the page is good says how long its register is.
use mathlib.Core.Path.{◌≡◌, ◌∙◌}
use lib.ListN.{length}
use native.Mathlib.Omega.{arith}
use Rattle.packet.specs.Packet.{width, register_bytes}
use Rattle.packet.proofs.Shifts.{exchange_right}
use Rattle.registers.specs.Registers.{high_first, bits_in}
use Rattle.lines.specs.Lines.{levels}
use Rattle.lines.proofs.Levels.{length_levels}
use Rattle.spi_bus.proofs.packet_after.Goals as goal

pub returns : goal.returns
returns c =
    let p = c.args.page in
    let l : length p.packet ≡ register_bytes = c.well_formed.0.1.1.1.1.0.1.0.1 in
    let ls = levels c.args.samples.now 0 (bits_in p) in
    (rw (c.high_first-high.ensures, c.bits_of-n.ensures) at c.exchange.ensures)
    ∙ (exchange_right width (high_first p.config) ls p.packet (omega arith) (omega (arith, c.requires, length_levels c.args.samples.now 0 (bits_in p)))).holds
