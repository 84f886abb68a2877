-- The row is the first with the code, or is passed over.
use borrow.Author.Rules.{rules}
use Prim.Native.Nat.{ℕ, ◌+◌, ◌<◌}
use mathlib.Core.Path.{◌≡◌, refl, sym, ap, ◌∙◌}
use mathlib.Core.Bool.{Bool, true, false, ◌&&◌, beq}
use lib.Dec.{eqb}
use lib.ListN.{get_or, drop}
use borrow.Author.Tests.{eq-eqb, ne_eqb}
use native.Mathlib.Omega.{arith}
use Rattle.std.specs.Prelude.{Some, None}
use Rattle.names.specs.Names.{codes, code_at, is_extended, first_where, has_code, row_coded}
use Rattle.names.proofs.Rows.{code_in, found_here, passed_over}
use Rattle.names.proofs.find.Goals as goal
use Rattle.names.proofs.find.Goals.{else-r-code-via-then-r-code+else-extended-is_extended, else-r-code-via-else-r-code}

module _ (n c : ℕ) (e : Bool) where
  -- x says whether the row is extended
  found : n < 74 → (x : Bool) → x ≡ is_extended n → code_at n ≡ c → beq x e ≡ true → Some n ≡ first_where (has_code c e) n (drop n codes)
  unfolding code_at
  found h x p q r = sym (found_here (has_code c e) codes n 0 h (rw (eq-eqb (get_or codes n 0) c q, ← p, r)))

  other_code : n < 74 → (code_at n ≡ c → ⊥) → first_where (has_code c e) (n + 1) (drop (n + 1) codes) ≡ first_where (has_code c e) n (drop n codes)
  unfolding code_at
  other_code h q = sym (passed_over (has_code c e) codes n 0 h (rw (ne_eqb (get_or codes n 0) c q)))

  other_kind : n < 74 → (x : Bool) → x ≡ is_extended n → code_at n ≡ c → beq x e ≡ false → first_where (has_code c e) (n + 1) (drop (n + 1) codes) ≡ first_where (has_code c e) n (drop n codes)
  unfolding code_at
  other_kind h x p q r = sym (passed_over (has_code c e) codes n 0 h (rw (eq-eqb (get_or codes n 0) c q, ← p, r)))

none : (n c : ℕ) (e : Bool) → n ≡ 74 → None ≡ first_where (has_code c e) n (drop n codes)
unfolding first_where
none n c e h = rw h

pub loop-row-init : goal.loop-row-init
unfolding row_coded
loop-row-init c = refl

pub returns-then-extended-is_extended : goal.returns-then-extended-is_extended
returns-then-extended-is_extended c =
    found c.loop-row.row c.args.code c.args.is_extended (omega arith) c.extended.result c.extended.ensures (sym (code_in c.loop-row.row _ (omega arith)) ∙ c.if-r-code.true) c.if-extended-is_extended.true ∙ c.loop-row.invariant

pub loop-row-preserved : goal.loop-row-preserved
loop-row-preserved c =
    let l = c.loop-row in
    let a = c.args in
    elim c.else-r-code.branch [
      | else-r-code-via-then-r-code+else-extended-is_extended w ↦ other_kind l.row a.code a.is_extended (omega arith) w.extended.result w.extended.ensures (sym (code_in l.row _ (omega arith)) ∙ w.if-r-code.true) w.if-extended-is_extended.false ∙ l.invariant
      | else-r-code-via-else-r-code w ↦ other_code l.row a.code a.is_extended (omega arith) (λ q. w.if-r-code.false (code_in l.row _ (omega arith) ∙ q)) ∙ l.invariant
    ]

pub returns : goal.returns
returns c =
    none c.loop-row.row c.args.code c.args.is_extended (omega arith) ∙ c.loop-row.invariant
