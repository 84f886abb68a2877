-- No two refusals have the same number. Assumes nothing.
use Prim.Native.Nat.{ℕ, ◌<◌}
use mathlib.Core.Path.{◌≡◌, refl, sym, ap, ◌∙◌}
use mathlib.Core.List.{◌∷◌}
use native.Mathlib.Omega.{arith}
use lib.ListN.{get_or}
use Rattle.refusals.specs.Refusals.{Refusal, Ranges, Samples, Actions, Replies, Header, Length, Passes, Kind, FaultBody, Size, Factory, Waits, number_of, refusals, InOrder}

pub in_order : InOrder
in_order = refl

refusal_at : ℕ → Refusal
refusal_at n = get_or (Ranges ∷ refusals) n Ranges

number_back : (r : Refusal) → refusal_at (number_of r) ≡ r
unfolding refusal_at
number_back Ranges = refl
number_back Samples = refl
number_back Actions = refl
number_back Replies = refl
number_back Header = refl
number_back Length = refl
number_back Passes = refl
number_back Kind = refl
number_back FaultBody = refl
number_back Size = refl
number_back Factory = refl
number_back Waits = refl

pub same_number : (r q : Refusal) → number_of r ≡ number_of q → r ≡ q
same_number r q n = sym (number_back r) ∙ ap refusal_at n ∙ number_back q

-- a refusal has a number from 1 to 4, which a call for an event can give, or a higher one
pub by_number : (P : Refusal → Type 0) (r : Refusal)
    → (number_of r ≡ 1 → P Ranges) → (number_of r ≡ 2 → P Samples) → (number_of r ≡ 3 → P Actions) → (number_of r ≡ 4 → P Replies) → (4 < number_of r → P r) → P r
by_number P Ranges a b c d z = a refl
by_number P Samples a b c d z = b refl
by_number P Actions a b c d z = c refl
by_number P Replies a b c d z = d refl
by_number P Header a b c d z = z (omega arith)
by_number P Length a b c d z = z (omega arith)
by_number P Passes a b c d z = z (omega arith)
by_number P Kind a b c d z = z (omega arith)
by_number P FaultBody a b c d z = z (omega arith)
by_number P Size a b c d z = z (omega arith)
by_number P Factory a b c d z = z (omega arith)
by_number P Waits a b c d z = z (omega arith)
