-- Data sent leaves ERROR and is sent whole. Assumes nothing.
use Prim.Native.Nat.{ℕ}
use mathlib.Core.Path.{◌≡◌, refl, ap}
use mathlib.Core.Bool.{Bool}
use mathlib.Core.List.{List, [], ◌∷◌, map}
use Rattle.decisions.specs.Said.{sent, error_after, replies_of, codes_of}

pub error_sent : (e : ℕ) (xs : List ℕ) → error_after e (map sent xs) ≡ e
unfolding error_after
error_sent e [] = refl
error_sent e (x ∷ xs) = error_sent e xs

pub replies_sent : (reports : Bool) (xs : List ℕ) → replies_of reports (map sent xs) ≡ xs
unfolding replies_of
replies_sent reports [] = refl
replies_sent reports (x ∷ xs) = ap (λ (r : List ℕ). x ∷ r) (replies_sent reports xs)

pub codes_sent : (xs : List ℕ) → codes_of (map sent xs) ≡ []
unfolding codes_of
codes_sent [] = refl
codes_sent (x ∷ xs) = codes_sent xs
