-- Actions are read four bytes at a time. Assumes nothing.
use Prim.Native.Nat.{ℕ, ◌+◌, ◌*◌, ◌/◌, ◌%◌, ◌<◌, ◌≤◌}
use mathlib.Core.Path.{◌≡◌, refl}
use mathlib.Core.List.{List, [], ◌∷◌}
use native.Mathlib.Omega.{arith}
use lib.ListN.{length, take, drop}
use Rattle.wire.specs.Action.{Action}
use Rattle.actions.specs.Reading.{action_of, actions_in, ReadBack}

-- ALL ACTIONS: the first and those after it, or none
pub first_and_rest : (bytes : List ℕ) {a : Action} {rest : List ℕ} → 4 ≤ length bytes → a ≡ action_of (take 4 bytes) → rest ≡ drop 4 bytes → actions_in bytes ≡ a ∷ actions_in rest
unfolding actions_in
first_and_rest (verb ∷ line ∷ low ∷ high ∷ rest) h e r = rw (e, r)
first_and_rest [] h e r = absurd (omega (arith, h))
first_and_rest (x ∷ []) h e r = absurd (omega (arith, h))
first_and_rest (x ∷ y ∷ []) h e r = absurd (omega (arith, h))
first_and_rest (x ∷ y ∷ z ∷ []) h e r = absurd (omega (arith, h))

pub too_few : (bytes : List ℕ) → length bytes < 4 → actions_in bytes ≡ []
unfolding actions_in
too_few [] h = refl
too_few (x ∷ []) h = refl
too_few (x ∷ y ∷ []) h = refl
too_few (x ∷ y ∷ z ∷ []) h = refl
too_few (x ∷ y ∷ z ∷ u ∷ rest) h = absurd (omega (arith, h))

-- WHAT IS WRITTEN READS BACK
pub actions_read : (as' : List Action) → ReadBack as'
unfolding actions_in
actions_read [] h = refl
actions_read (a ∷ as') h =
    let e : a.value % 256 + 256 * (a.value / 256 % 256) ≡ a.value = omega (arith, h.0) in
    rw (e, actions_read as' h.1)
