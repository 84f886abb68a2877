-- A byte more of the word, and its end.
use Rattle.std.proofs.Common.{rules, arith, ◌≡◌, ℕ, ◌+◌, ◌*◌, ◌<◌, ◌≤◌, length, List, Some, None, ◌∙◌, sym, ap, add-one, get_or, drop}
use Rattle.std.proofs.lemmas.Grind.{common_steps}
use Rattle.std.proofs.Math.Seq.{drop-cons}
use lib.ListN.{drop_of_length-le}
use borrow.Author.Tests.{lt-ltb, le-ltb, le-leb, lt-leb, eq-eqb, ne_eqb}
use Rattle.text.specs.Words.{digit_of, with_digit, count_from, count_of}
use Rattle.text.proofs.numbers.count.Goals as goal
use Rattle.text.proofs.numbers.count.Goals.{then-d-gt9-via-then-d-gt9, then-d-gt9-via-else-d-gt9+then-n-gt9999}

module _ (w : List ℕ) (n i : ℕ) (h : i < length w) where
  turn : count_from n (drop i w) ≡ with_digit n (λ m. count_from m (drop (i + 1) w)) (digit_of (get_or w i 0))
  unfolding count_from
  turn = rw (add-one i, drop-cons w i 0 h)

  no_digit : digit_of (get_or w i 0) ≡ None → None ≡ count_from n (drop i w)
  no_digit e = rw (turn, e)

  module _ (d : ℕ) (e : digit_of (get_or w i 0) ≡ Some d) where
    too_high : 9 < d → None ≡ count_from n (drop i w)
    too_high k = rw (turn, e, le-ltb d 10 (omega arith))

    too_many : d ≤ 9 → 9999 < n → None ≡ count_from n (drop i w)
    too_many k l = rw (turn, e, lt-ltb d 10 (omega arith), lt-leb n 9999 l)

    one_more : d ≤ 9 → n ≤ 9999 → count_from (10 * n + d) (drop (i + 1) w) ≡ count_from n (drop i w)
    one_more k l = rw (turn, e, lt-ltb d 10 (omega arith), le-leb n 9999 l)

module _ (w : List ℕ) (n i : ℕ) (h : length w ≤ i) where
  none : n ≡ 0 → None ≡ count_from n (drop i w)
  unfolding count_from
  none e = rw (drop_of_length-le w {i = i} h, eq-eqb n 0 e)

  some : (n ≡ 0 → ⊥) → Some n ≡ count_from n (drop i w)
  unfolding count_from
  some e = rw (drop_of_length-le w {i = i} h, ne_eqb n 0 e)

pub returns-in_err-d : goal.returns-in_err-d
returns-in_err-d c =
    let l = c.loop-b in c.from_residual.ensures ∙ no_digit c.args.word.now l.n l.b-index (omega arith) (sym c.in_err-d.ensures) ∙ l.invariant.rest

pub returns-then-d-gt9 : goal.returns-then-d-gt9
returns-then-d-gt9 c =
    let l = c.loop-b in
    let e = sym c.in_ok-d.ensures in
    elim c.then-d-gt9.branch [
      | then-d-gt9-via-then-d-gt9 w ↦ too_high c.args.word.now l.n l.b-index (omega arith) _ e w.if-d-gt9.true ∙ l.invariant.rest
      | then-d-gt9-via-else-d-gt9+then-n-gt9999 w ↦ too_many c.args.word.now l.n l.b-index (omega arith) _ e w.if-d-gt9.false w.if-n-gt9999.true ∙ l.invariant.rest
    ]

pub loop-b-preserved : goal.loop-b-preserved
loop-b-preserved c =
    let l = c.loop-b in
    record { few = omega arith; rest = one_more c.args.word.now l.n l.b-index (omega arith) _ (sym c.in_ok-d.ensures) c.if-d-gt9.false c.if-n-gt9999.false ∙ l.invariant.rest }

pub returns-then-n-eq0 : goal.returns-then-n-eq0
returns-then-n-eq0 c =
    let l = c.loop-b in none c.args.word.now l.n l.b-index (omega arith) (omega arith) ∙ l.invariant.rest

pub returns-else-n-eq0 : goal.returns-else-n-eq0
returns-else-n-eq0 c =
    let l = c.loop-b in some c.args.word.now l.n l.b-index (omega arith) c.if-n-eq0.false ∙ l.invariant.rest
