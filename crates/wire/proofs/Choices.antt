-- What a test chooses. Assumes nothing.
use Prim.Native.Nat.{ℕ, ◌≤◌}
use mathlib.Core.Path.{◌≡◌, refl, sym, ap}
use mathlib.Core.Bool.{Bool, true, false, cond}
use native.Mathlib.Omega.{arith}

-- where the test is known
pub chosen : {A : Type 0} {u : Bool} (t : Bool) (x y : A) → t ≡ u → cond u x y ≡ cond t x y
chosen t x y e = sym (ap (λ (b : Bool). cond b x y) e)

-- a number or 0
pub at_most : (t : Bool) (n : ℕ) → cond t n 0 ≤ n
at_most true n = omega arith
at_most false n = omega arith

-- to show something of a choice, show it of each side
pub by_cond : {A : Type 0} (P : A → Type 0) (t : Bool) {a b : A} → (t ≡ true → P a) → (t ≡ false → P b) → P (cond t a b)
by_cond P true f g = f refl
by_cond P false f g = g refl

pub by_bool : {A : Type 0} (t : Bool) → (t ≡ true → A) → (t ≡ false → A) → A
by_bool true f g = f refl
by_bool false f g = g refl
