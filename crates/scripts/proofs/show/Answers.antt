-- What was made lies within the buffer.
use native.Mathlib.Omega.{arith}
use lib.ListN.{length-take}
use Rattle.scripts.proofs.show.Goals as goal

pub slice_bounds-say_good-end : goal.slice_bounds-say_good-end
slice_bounds-say_good-end c =
    simp length-take (omega (arith, c.assemble-r.ensures.within))
