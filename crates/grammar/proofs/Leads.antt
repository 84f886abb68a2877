-- THEOREMS: where a list of calls leads a machine that follows the scanner, and a stream of bytes one by one. Assumes nothing.
use Prim.Native.Nat.{ℕ}
use mathlib.Core.Path.{◌≡◌, refl, sym, ◌∙◌, ap}
use mathlib.Core.Bool.{Bool, true, false, cond}
use mathlib.Core.List.{List, [], ◌∷◌}
use Rattle.std.specs.Prelude.{Result, Ok, Err}
use Rattle.grammar.specs.Scanner.{Scanner, scan}
use Rattle.grammar.specs.Machines.{Machine, Call, not_refused, final, bytes}
use Rattle.grammar.specs.Following.{Stream, scanner_after, followed, undropped, ByteByByte, Leads}
use Rattle.grammar.proofs.Follows.{Agree, Follows, along}
use Rattle.grammar.proofs.Demand3.{seen_between}

pub agreed : (o : Result Scanner ℕ) (ws : List ℕ) (v w : Scanner) → Agree o ws v w → w ≡ scanner_after v o
agreed (Ok h) ws v w a = a.1
agreed (Err x) ws v w a = a.1

module _ (M : Machine) (view : M.State → Scanner) (F : Follows M view) where
  led : (s : M.State) → M.Good s → (ks : List (Call M)) → view (final M s ks) ≡ followed (view s) (bytes M (not_refused M s ks))
  unfolding followed
  led s g ks =
      along M view F (λ v ts u. u ≡ followed v (bytes M ts)) (λ v. refl) (λ v w u t ts a q. q ∙ ap (λ (h : Scanner). followed h (bytes M ts)) (agreed (scan v t.byte) t.codes v w a)) s g ks

  pub leads : (s : M.State) → M.Good s → M.Idle s → (ks : List (Call M)) → Leads M s ks
  leads s g i ks =
      sym (F.viewed (final M s ks)) ∙ ap (λ (x : Scanner). x.context) (led s g ks ∙ ap (λ (x : Scanner). followed x (bytes M (not_refused M s ks))) (seen_between M view F s i))

-- WITH LINE FAULTS
pub byte_by_byte : (s : Stream) (b : ℕ) (bs : List ℕ) → ByteByByte s b bs
unfolding followed
byte_by_byte s b [] = refl
byte_by_byte s b (c ∷ cs) = ap undropped (go s.drop)
  where
    go : (pending : Bool) → followed s.scanner (cond pending (c ∷ cs) (b ∷ c ∷ cs)) ≡ followed (followed s.scanner (cond pending [] (b ∷ []))) (c ∷ cs)
    go true = refl
    go false = refl
