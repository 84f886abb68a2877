-- A word too long names no row; any other is padded as the names are, and the first name that it is from a row on is looked for.
use borrow.Author.Tests.{le-leb, lt-leb}
use Prim.Native.Nat.{ℕ, zero, suc, ◌≤◌, ◌<◌}
use mathlib.Core.Path.{◌≡◌, refl, sym, ap, ◌∙◌}
use mathlib.Core.Bool.{Bool, true, cond}
use mathlib.Core.List.{List, [], ◌∷◌, ◌++◌}
use Rattle.std.specs.Prelude.{Option, None}
use native.Mathlib.Nat.{not-suc-le-zero, le_of_suc-le-suc}
use native.Mathlib.Omega.{arith}
use lib.ListN.{length, get_or, drop}
use Rattle.padding.specs.Padding.{blanks, padded}
use Rattle.names.specs.Names.{names, name_at, first_where}
use Rattle.names.proofs.Rows.{found_here, passed_over}
use Rattle.text.specs.Words.{same}
use Rattle.text.specs.Named.{has_name, row_named}
use Rattle.text.proofs.Sameness.{same_is}
use Rattle.text.proofs.named.row_named.Goals as goal

too_long : (w : List ℕ) → 24 < length w → None ≡ row_named w
unfolding row_named
too_long w h = rw (lt-leb (length w) 24 h)

-- a word in front of blanks
pads : (k : ℕ) (w : List ℕ) → length w ≤ k → w ++ drop (length w) (blanks k) ≡ padded k w
pads k [] h = refl
pads zero (x ∷ xs) h = absurd (not-suc-le-zero h)
pads (suc k) (x ∷ xs) h = ap (λ (r : List ℕ). x ∷ r) (pads k xs (le_of_suc-le-suc h))

first : (w s : List ℕ) → length w ≤ 24 → s ≡ w → first_where (has_name (s ++ drop (length w) (blanks 24))) 0 names ≡ row_named w
unfolding row_named
first w s h e = ap (λ (x : List ℕ). first_where (has_name (x ++ drop (length w) (blanks 24))) 0 names) e ∙ ap (λ (x : List ℕ). first_where (has_name x) 0 names) (pads 24 w h) ∙ sym (ap (λ (t : Bool). cond t (first_where (has_name (padded 24 w)) 0 names) None) (le-leb (length w) 24 h))

-- the row's name x is compared with the word w
compared : (n : ℕ) (w x : List ℕ) {r t : Bool} → x ≡ name_at n → (r ≡ true → w ≡ x) × (w ≡ x → r ≡ true) → r ≡ t → same w (get_or names n (blanks 24)) ≡ t
unfolding name_at
compared n w x e s h = ap (λ (y : List ℕ). same w y) (sym e) ∙ sym (same_is w x s) ∙ h

none_named : (n : ℕ) (w p : List ℕ) → n ≡ 74 → first_where (has_name p) n (drop n names) ≡ row_named w → None ≡ row_named w
unfolding first_where
none_named n w p h q = ap (λ (m : ℕ). first_where (has_name p) m (drop m names)) (sym h) ∙ q

pub returns-then-word-gt-NAME_WIDTH : goal.returns-then-word-gt-NAME_WIDTH
returns-then-word-gt-NAME_WIDTH c = too_long c.args.word.now c.if-word-gt-NAME_WIDTH.true

pub loop-row-init : goal.loop-row-init
loop-row-init c =
    first c.args.word.now c.copy_from_slice.new.self c.if-word-gt-NAME_WIDTH.false c.copy_from_slice.ensures.after

pub returns-then-same : goal.returns-then-same
returns-then-same c =
    let l = c.loop-row in
    let p = c.copy_from_slice.new.self ++ drop (length c.args.word.now) (blanks 24) in
    sym (found_here (has_name p) names l.row (blanks 24) c.loop-row-test.true (compared l.row p c.name.result c.name.ensures c.same.ensures c.if-same.true)) ∙ l.invariant

pub loop-row-preserved : goal.loop-row-preserved
loop-row-preserved c =
    let l = c.loop-row in
    let p = c.copy_from_slice.new.self ++ drop (length c.args.word.now) (blanks 24) in
    sym (passed_over (has_name p) names l.row (blanks 24) c.loop-row-test.true (compared l.row p c.name.result c.name.ensures c.same.ensures c.if-same.false)) ∙ l.invariant

pub returns : goal.returns
returns c =
    let l = c.loop-row in
    let p = c.copy_from_slice.new.self ++ drop (length c.args.word.now) (blanks 24) in
    none_named l.row c.args.word.now p (omega arith) l.invariant
