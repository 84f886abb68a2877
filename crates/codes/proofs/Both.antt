-- What holds of both sides of an "and", each side by a name. Assumes nothing.
use mathlib.Core.Path.{◌≡◌}
use mathlib.Core.Bool.{Bool, true, ◌&&◌, and-eq-true_iff}

pub both_left : (a b : Bool) → a && b ≡ true → a ≡ true
both_left a b e = ((and-eq-true_iff a b).0 e).0

pub both_right : (a b : Bool) → a && b ≡ true → b ≡ true
both_right a b e = ((and-eq-true_iff a b).0 e).1
