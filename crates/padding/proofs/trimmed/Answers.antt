-- The goals that the search leaves.
use borrow.Author.Rules.{rules}
use native.Mathlib.Omega.{arith}
use borrow.Author.Tests.{eq-eqb, ne_eqb}
use Prim.Native.Nat.{ℕ, zero, suc, ◌+◌, ◌-◌, ◌<◌, ◌≤◌}
use native.Mathlib.Nat.{not-suc-le-zero}
use mathlib.Core.Path.{◌≡◌, refl, sym, ap, ◌∙◌}
use mathlib.Core.Bool.{Bool, true, false, cond}
use mathlib.Core.List.{List}
use lib.Dec.{eqb}
use lib.ListN.{get_or, take}
use Rattle.padding.specs.Padding.{size_within}
use Rattle.padding.proofs.trimmed.Goals as goal

-- the last byte is a blank or not
turn : (t : List ℕ) (n : ℕ) (x : Bool) → 0 < n → eqb (get_or t (n - 1) 0) 0x20 ≡ x → size_within t n ≡ cond x (size_within t (n - 1)) n
unfolding size_within
turn t zero x h q = absurd (not-suc-le-zero h)
turn t (suc n) x h q = let e : suc n - 1 ≡ n = omega arith in ap (λ (b : Bool). cond b (size_within t n) (suc n)) (ap (λ (m : ℕ). eqb (get_or t m 0) 0x20) (sym e) ∙ q) ∙ ap (λ (m : ℕ). cond x (size_within t m) (suc n)) (sym e)

-- nothing is left
none : (t : List ℕ) (n : ℕ) → n ≤ 0 → 0 ≡ size_within t n
unfolding size_within
none t zero h = refl
none t (suc n) h = absurd (not-suc-le-zero h)

pub returns-then-text-i-ne32 : goal.returns-then-text-i-ne32
returns-then-text-i-ne32 c =
    let t = c.args.text.now in
    let i = c.loop-i.i in
    let e : i - 1 + 1 ≡ i = omega arith in
    ap (λ (m : ℕ). take m t) (e ∙ sym (turn t i false (search rules) (ne_eqb _ _ c.if-text-i-ne32.true)) ∙ c.loop-i.invariant)

pub loop-i-preserved : goal.loop-i-preserved
loop-i-preserved c =
    sym (turn c.args.text.now c.loop-i.i true (search rules) (eq-eqb _ _ c.if-text-i-ne32.false)) ∙ c.loop-i.invariant

pub returns : goal.returns
returns c =
    let t = c.args.text.now in
    ap (λ (m : ℕ). take m t) (none t c.loop-i.i (omega arith) ∙ c.loop-i.invariant)
