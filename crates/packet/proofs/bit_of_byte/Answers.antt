-- The bit at the place of the step in the byte.
use mathlib.Core.Path.{ap, ◌∙◌}
use mathlib.Core.List.{[], ◌∷◌}
use Prim.Native.Nat.{ℕ}
use native.Mathlib.Omega.{arith}
use lib.ListN.{get_or}
use Rattle.packet.specs.Register.{bits}
use Rattle.packet.proofs.Bytes.{length_bits}
use Rattle.packet.proofs.Places.{order_at, one_byte}
use Rattle.packet.proofs.bit_of_byte.Goals as goal

pub returns : goal.returns
returns c =
    let r = c.args.b ∷ [] in
    (one_byte c.args.b c.place_of-place.result c.place_of-place.ensures.1 ∙ ap (λ (k : ℕ). get_or (bits r) k 0) c.place_of-place.ensures.0 ∙ order_at c.args.high 8 (bits r) c.args.step (length_bits r) c.requires, omega arith)
