-- One byte more, and the end.
use mathlib.Core.Path.{◌≡◌, sym, ap, ◌∙◌}
use Prim.Native.Nat.{ℕ, suc, ◌+◌, ◌<◌}
use mathlib.Core.List.{List}
use borrow.Author.Rules.{rules}
use native.Mathlib.Omega.{arith}
use lib.ListN.{length, get_or, drop, drop_of_length-le}
use lib.Seq.{drop-cons}
use Rattle.grammar.specs.Scanner.{Scanner, scan}
use Rattle.grammar.specs.Following.{scanner_after, followed}
use Rattle.grammar.proofs.following.follow.Goals as goal

one_more : (bs : List ℕ) (g₀ g h : Scanner) (i : ℕ) → i < length bs → h ≡ scanner_after g (scan g (get_or bs i 0)) → followed g (drop i bs) ≡ followed g₀ bs → followed h (drop (i + 1) bs) ≡ followed g₀ bs
unfolding followed
one_more bs g₀ g h i l e q =
    let n : i + 1 ≡ suc i = omega arith in
    rw (n, e) (sym (ap (followed g) (drop-cons bs i 0 l)) ∙ q)

pub loop-b-preserved : goal.loop-b-preserved
loop-b-preserved c =
    one_more c.args.bytes.now _ c.loop-b.g _ c.loop-b.b-index (search rules) c.scanner_after-g.ensures c.loop-b.invariant

pub returns : goal.returns
unfolding followed
returns c =
    sym (ap (followed c.loop-b.g) (drop_of_length-le c.args.bytes.now (omega arith))) ∙ c.loop-b.invariant
