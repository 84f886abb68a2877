-- The bit at the place of the step.
use borrow.Author.Rules.{rules}
use mathlib.Core.Path.{ap, ◌∙◌}
use Prim.Native.Nat.{ℕ}
use native.Mathlib.Omega.{arith}
use lib.ListN.{get_or}
use Rattle.packet.specs.Register.{bits}
use Rattle.packet.specs.Packet.{width}
use Rattle.packet.proofs.Bytes.{length_bits}
use Rattle.packet.proofs.Places.{order_at}
use Rattle.packet.proofs.bit_within.Goals as goal

pub returns : goal.returns
returns c =
    let r = c.args.r in
    (c.bit_at.ensures.0 ∙ ap (λ (k : ℕ). get_or (bits r) k 0) c.place_of-place.ensures.0 ∙ order_at c.args.high width (bits r) c.args.step (omega (arith, length_bits r, c.well_formed.0.1.0.1)) (search rules), c.bit_at.ensures.1)
