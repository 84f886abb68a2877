-- How the code that looks a byte up meets the tables: by facts that are computed over all bytes. Assumes nothing.
use Prim.Native.Nat.{ℕ, zero, suc, ◌+◌, ◌<◌}
use mathlib.Core.Path.{◌≡◌, refl, sym, ◌∙◌, ap}
use mathlib.Core.Bool.{Bool, false, cond, ◌||◌}
use mathlib.Core.List.{List, [], ◌∷◌, map, head-eq_of_cons-eq, tail-eq_of_cons-eq}
use mathlib.Core.Logic.{inl, inr, ⊎_elim}
use native.Mathlib.Nat.{add-zero, zero-add}
use native.Mathlib.Omega.{arith}
use borrow.Author.Tests.{ne_eqb}
use types.Run.{OneOf}
use lib.Dec.{eqb}

-- A FACT OF EVERY BYTE, computed over all of them

abbrev pub values : {A : Type 0} → (ℕ → A) → ℕ → ℕ → List A
values f zero i = []
values f (suc n) i = f i ∷ values f n (suc i)

values_at : {A : Type 0} (f g : ℕ → A) (n i : ℕ) → values f n i ≡ values g n i → (k : ℕ) → k < n → f (i + k) ≡ g (i + k)
values_at f g zero i e k h = absurd (omega arith)
values_at f g (suc n) i e zero h = ap f (add-zero i) ∙ head-eq_of_cons-eq e ∙ ap g (sym (add-zero i))
values_at f g (suc n) i e (suc k) h =
    let q : i + suc k ≡ suc i + k = omega arith in
    ap f q ∙ values_at f g n (suc i) (tail-eq_of_cons-eq e) k (omega arith) ∙ ap g (sym q)

pub byte_fact : {A : Type 0} (f g : ℕ → A) → values f 256 0 ≡ values g 256 0 → (b : ℕ) → b < 256 → f b ≡ g b
byte_fact f g e b h = rw (← zero-add b) (values_at f g 256 0 e b h)

-- THE KEYS OF AN ARM

abbrev pub any_of : ℕ → List ℕ → Bool
any_of b [] = false
any_of b (k ∷ ks) = eqb b k || any_of b ks

pub one_of : {A : Type 0} (f : ℕ → A) (x : A) (ks : List ℕ) (b : ℕ) → map f ks ≡ map (λ (_ : ℕ). x) ks → OneOf ks b → x ≡ f b
one_of f x [] b e h = absurd h
one_of f x (k ∷ []) b e h = sym (ap f h ∙ head-eq_of_cons-eq e)
one_of f x (k ∷ j ∷ ks) b e h = ⊎_elim (λ q. sym (ap f q ∙ head-eq_of_cons-eq e)) (one_of f x (j ∷ ks) b (tail-eq_of_cons-eq e)) h

pub none_of : (ks : List ℕ) (b : ℕ) → (OneOf ks b → ⊥) → any_of b ks ≡ false
none_of [] b h = refl
none_of (k ∷ []) b h = rw (ne_eqb b k h)
none_of (k ∷ j ∷ ks) b h = rw (ne_eqb b k (λ q. h (inl q))) (none_of (j ∷ ks) b (λ t. h (inr t)))

-- a byte that no arm names: the function gives x there, if it does so at every such byte
pub other : {A : Type 0} (f : ℕ → A) (x : A) (named : ℕ → Bool) → values (λ (b : ℕ). cond (named b) (f b) x) 256 0 ≡ values f 256 0 → (b : ℕ) → b < 256 → named b ≡ false → x ≡ f b
other f x named e b h q = sym (ap (λ (t : Bool). cond t (f b) x) q) ∙ byte_fact (λ (b : ℕ). cond (named b) (f b) x) f e b h
