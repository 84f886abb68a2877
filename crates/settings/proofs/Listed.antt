-- The front of a list is its elements, place by place. Assumes nothing.
use Prim.Native.Nat.{ℕ, zero, suc, ◌≤◌}
use mathlib.Core.Path.{◌≡◌, refl, ap}
use mathlib.Core.List.{List, [], ◌∷◌}
use native.Mathlib.Omega.{arith}
use lib.ListN.{get_or, length, take}

-- so many elements, by their places
abbrev pub listed : (ℕ → ℕ) → ℕ → List ℕ
listed f zero = []
listed f (suc n) = f 0 ∷ listed (λ (k : ℕ). f (suc k)) n

pub front_listed : (l : List ℕ) (n : ℕ) → n ≤ length l → take n l ≡ listed (λ (k : ℕ). get_or l k 0) n
front_listed l zero h = refl
front_listed [] (suc n) h = absurd (omega arith)
front_listed (x ∷ l) (suc n) h = ap (λ (r : List ℕ). x ∷ r) (front_listed l n (omega arith))
