-- The bytes before the place are read one after another.
use Rattle.std.proofs.Common.{rules, arith, ◌≡◌, ℕ, ◌+◌, ◌<◌, ◌≤◌, length, cond, eqb, List, ◌∙◌, refl, sym, ap, add-one, get_or, take, drop, eq-eqb, ne_eqb}
use Rattle.std.proofs.lemmas.Grind.{common_steps}
use Rattle.std.proofs.Math.Seq.{drop-cons}
use lib.ListN.{drop_of_length-le}
use Rattle.text.specs.Places.{Position, position_from, position_of}
use Rattle.text.proofs.place.position.Goals as goal
use Rattle.text.proofs.place.position.Goals.{then-b-eq10, else-b-eq10}

module _ (t : List ℕ) (line column i : ℕ) where
  one_more : i < length t → position_from line column (drop i t) ≡ cond (eqb (get_or t i 0) 10) (position_from (line + 1) 1 (drop (i + 1) t)) (position_from line (column + 1) (drop (i + 1) t))
  unfolding position_from
  one_more h = rw (add-one line, add-one column, add-one i, drop-cons t i 0 h)

  line_ends : i < length t → get_or t i 0 ≡ 10 → position_from (line + 1) 1 (drop (i + 1) t) ≡ position_from line column (drop i t)
  line_ends h e = rw (one_more h, eq-eqb (get_or t i 0) 10 e)

  line_goes_on : i < length t → (get_or t i 0 ≡ 10 → ⊥) → position_from line (column + 1) (drop (i + 1) t) ≡ position_from line column (drop i t)
  line_goes_on h e = rw (one_more h, ne_eqb (get_or t i 0) 10 e)

  all_read : length t ≤ i → ◌≡◌ {A = Position} (record { line = line; column = column }) (position_from line column (drop i t))
  unfolding position_from
  all_read h = rw (drop_of_length-le t {i = i} h)

pub loop-b-init : goal.loop-b-init
unfolding position_of
loop-b-init c =
    let e : c.unwrap_or-before.result.now ≡ take c.args.place c.args.text.now = grind (arith, common_steps) in
    record { lines = omega arith; columns = omega arith; rest = ap (λ (x : List ℕ). position_from 1 1 x) e }

pub loop-b-preserved : goal.loop-b-preserved
loop-b-preserved c =
    let l = c.loop-b in
    let t = c.unwrap_or-before.result.now in
    elim c.if-b-eq10.branch [
      | then-b-eq10 w ↦ rw (w.line-is, w.column-is) (record { lines = omega arith; columns = omega arith; rest = line_ends t l.line l.column l.b-index (omega arith) w.if-b-eq10.true ∙ l.invariant.rest })
      | else-b-eq10 w ↦ rw (w.line-is, w.column-is) (record { lines = omega arith; columns = omega arith; rest = line_goes_on t l.line l.column l.b-index (omega arith) w.if-b-eq10.false ∙ l.invariant.rest })
    ]

pub returns : goal.returns
returns c =
    let l = c.loop-b in all_read c.unwrap_or-before.result.now l.line l.column l.b-index (omega arith) ∙ l.invariant.rest
