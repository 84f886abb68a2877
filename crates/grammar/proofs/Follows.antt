-- What a machine shows to have demand 3: seen through a view of its state it follows the scanner. Then a fact of every list of calls
-- is shown by one call at a time.
use Prim.Native.Nat.{ℕ, ◌<◌}
use mathlib.Core.Path.{◌≡◌, refl, subst}
use mathlib.Core.Bool.{Bool, true, false, cond}
use mathlib.Core.List.{List, [], ◌∷◌}
use mathlib.Core.Logic.{◌↔◌}
use Rattle.codes.specs.Codes.{any_rejecting}
use Rattle.std.specs.Prelude.{Result, Ok, Err}
use Rattle.grammar.specs.Scanner.{Between, Scanner, scan}
use Rattle.grammar.specs.Machines.{Machine, Call, NotRefused, after_call, not_refused, final}

-- what the scanner makes of a byte, the codes that the machine returns, and the views before and after
abbrev pub Agree : Result Scanner ℕ → List ℕ → Scanner → Scanner → Type 0
Agree (Ok g) ws v v' = (any_rejecting ws ≡ false) × (v' ≡ g)
Agree (Err w) ws v v' = (ws ≡ w ∷ []) × (v' ≡ v)

pub record Follows (M : Machine) (view : M.State → Scanner) : Type 0 where
  pub viewed : (s : M.State) → (view s).context ≡ M.context s
  pub idle : (s : M.State) → M.Idle s ↔ ((view s).place ≡ Between)
  pub kept : (s : M.State) (b : ℕ) (l : M.Lent) → M.refuses s b l ≡ true → M.next s b l ≡ s
  pub good : (s : M.State) (b : ℕ) (l : M.Lent) → b < 256 → M.Good s → M.Good (M.next s b l)
  pub step : (s : M.State) (b : ℕ) (l : M.Lent) → b < 256 → M.Good s → M.refuses s b l ≡ false → Agree (scan (view s) b) (M.codes s b l) (view s) (view (M.next s b l))

module _ (M : Machine) (view : M.State → Scanner) (F : Follows M view) where
  -- what holds of no calls, and of one more that is not refused if it holds of those after it, holds of every list of calls; a refused
  -- one leaves the view
  pub along : (P : Scanner → List (NotRefused M) → Scanner → Type 0) → ((v : Scanner) → P v [] v)
      → ((v w u : Scanner) (t : NotRefused M) (ts : List (NotRefused M)) → Agree (scan v t.byte) t.codes v w → P w ts u → P v (t ∷ ts) u)
      → (s : M.State) → M.Good s → (ks : List (Call M)) → P (view s) (not_refused M s ks) (view (final M s ks))
  along P none more s g [] = none (view s)
  along P none more s g (k ∷ ks) = go (M.refuses s k.byte k.lent) refl (along P none more (after_call M s k) (F.good s k.byte k.lent k.fits g) ks)
    where
      t : NotRefused M
      t = record { byte = k.byte; codes = M.codes s k.byte k.lent }

      ts : List (NotRefused M)
      ts = not_refused M (after_call M s k) ks

      u : Scanner
      u = view (final M (after_call M s k) ks)

      go : (r : Bool) → M.refuses s k.byte k.lent ≡ r → P (view (after_call M s k)) ts u → P (view s) (cond r ts (t ∷ ts)) u
      go true e p = subst (λ (x : M.State). P (view x) ts u) (F.kept s k.byte k.lent e) p
      go false e p = more (view s) (view (after_call M s k)) u t ts (F.step s k.byte k.lent k.fits g e) p
