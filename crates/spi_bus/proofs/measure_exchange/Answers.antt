-- The count is an exchange's; that the page is good says how long its register is.
use Prim.Native.Nat.{ℕ}
use mathlib.Core.Path.{◌≡◌, ap}
use lib.ListN.{length}
use native.Mathlib.Omega.{arith}
use Rattle.packet.specs.Packet.{register_bytes}
use Rattle.registers.specs.Registers.{bits_in}
use Rattle.lines.specs.Waves.{measured}
use Rattle.spi_bus.proofs.Exchanges.{exchange_length}
use Rattle.spi_bus.proofs.measure_exchange.Goals as goal

pub returns : goal.returns
returns c =
    let p = c.args.page in
    let l : length p.packet ≡ register_bytes = c.well_formed.0.1.1.1.1.0.1.0.1 in
    rw c.bits_of-n.ensures (ap (λ (k : ℕ). measured (bits_in p) k 0) (exchange_length p (omega (arith, c.requires))))
