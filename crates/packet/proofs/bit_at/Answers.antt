-- A bit of the register is a bit of the byte that holds its place.
use native.Mathlib.Omega.{arith}
use Rattle.packet.proofs.Places.{bit_place}
use Rattle.packet.proofs.bit_at.Goals as goal

pub returns : goal.returns
returns c =
    (bit_place c.args.r c.args.place (omega (arith, c.well_formed.0.1.0.1)), omega arith)
