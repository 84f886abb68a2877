-- What a table's lookup finds: a meaning that has what all of them have, or none where the byte is none of its codes. Assumes nothing.
use Prim.Native.Nat.{ℕ}
use mathlib.Core.Path.{◌≡◌, refl}
use mathlib.Core.Bool.{Bool, true, false, cond, ◌&&◌}
use mathlib.Core.List.{List, [], ◌∷◌}
use borrow.Author.Tests.{ne_eqb}
use lib.Dec.{eqb}
use Rattle.codes.specs.Tables.{Entry, lookup}
use Rattle.codes.proofs.Both.{both_left, both_right}

-- what the last arm of a match over a table's codes knows, after N
abbrev pub Missed : {A : Type 0} → Type 0 → List (Entry A) → ℕ → Type 0
Missed N [] b = N
Missed N (e ∷ es) b = Missed (N × (b ≡ e.code → ⊥)) es b

missed_front : {A : Type 0} (N : Type 0) (es : List (Entry A)) (b : ℕ) → Missed N es b → N
missed_front N [] b m = m
missed_front N (e ∷ es) b m = (missed_front (N × (b ≡ e.code → ⊥)) es b m).0

pub missed : {A : Type 0} (unknown : A) (N : Type 0) (es : List (Entry A)) (b : ℕ) → Missed N es b → unknown ≡ lookup unknown b es
missed unknown N [] b m = refl
missed unknown N (e ∷ es) b m =
    let ne = missed_front (N × (b ≡ e.code → ⊥)) es b m in
    rw (ne_eqb b e.code ne.1) (missed unknown (N × (b ≡ e.code → ⊥)) es b m)

-- each meaning of a table has P
abbrev pub Every : {A : Type 0} → (A → Type 0) → List (Entry A) → Type 0
Every P [] = Unit {0}
Every P (e ∷ es) = P e.meaning × Every P es

-- what holds of both branches holds of the one that a test chooses
pub either : {A : Type 0} (P : A → Type 0) (t : Bool) (x y : A) → P x → P y → P (cond t x y)
either P true x y p q = p
either P false x y p q = q

pub found : {A : Type 0} (P : A → Type 0) (unknown : A) (b : ℕ) (es : List (Entry A)) → P unknown → Every P es → P (lookup unknown b es)
found P unknown b [] u h = u
found P unknown b (e ∷ es) u h = either P (eqb b e.code) e.meaning (lookup unknown b es) h.0 (found P unknown b es u h.1)

-- a test that every meaning of a table passes, computed over the table
abbrev pub all : {A : Type 0} → (A → Bool) → List (Entry A) → Bool
all f [] = true
all f (e ∷ es) = f e.meaning && all f es

pub found_all : {A : Type 0} (f : A → Bool) (unknown : A) (b : ℕ) (es : List (Entry A)) → f unknown ≡ true → all f es ≡ true → f (lookup unknown b es) ≡ true
found_all f unknown b [] u h = u
found_all {A} f unknown b (e ∷ es) u h =
    either (λ (x : A). f x ≡ true) (eqb b e.code) e.meaning (lookup unknown b es) (both_left (f e.meaning) (all f es) h) (found_all f unknown b es u (both_right (f e.meaning) (all f es) h))
