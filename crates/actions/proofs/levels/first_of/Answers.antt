-- An action is found, or what is found is in those after it.
use Prim.Native.Nat.{ℕ, ◌≤◌, ◌<◌}
use mathlib.Core.Path.{◌≡◌, sym, ap, ◌∙◌}
use mathlib.Core.Bool.{Bool, cond, ◌&&◌}
use mathlib.Core.List.{List}
use native.Mathlib.Omega.{arith}
use lib.Dec.{eqb, leb}
use lib.ListN.{length, take, drop}
use Rattle.std.specs.Prelude.{Some, None}
use Rattle.wire.specs.Action.{Action}
use Rattle.actions.specs.Reading.{action_of, actions_in, wait_of}
use Rattle.actions.specs.Levels.{first_of}
use Rattle.actions.proofs.Walks.{first_and_rest, too_few}
use Rattle.actions.proofs.levels.first_of.Goals as goal

turn : (bytes : List ℕ) (line least most waited : ℕ) {a : Action} {four rest : List ℕ} {t : Bool} → 4 ≤ length bytes → four ≡ take 4 bytes → rest ≡ drop 4 bytes
    → a ≡ action_of four → eqb a.line line && leb least a.verb && leb a.verb most ≡ t
    → first_of line least most waited (actions_in bytes) ≡ cond t (Some (a, waited)) (first_of line least most (wait_of a) (actions_in rest))
unfolding first_of
turn bytes line least most waited h f r e t = rw (first_and_rest bytes h (e ∙ ap action_of f) r, t)

pub returns-then-action-line : goal.returns-then-action-line
returns-then-action-line c =
    let w = c.in-Some.ensures.cases in
    sym (turn c.loop-bytes.left.now _ _ _ c.loop-bytes.waited (omega (arith, w.2)) w.0 w.1 c.action_of-action.ensures c.if-action-line.true) ∙ c.loop-bytes.invariant

pub loop-bytes-preserved : goal.loop-bytes-preserved
loop-bytes-preserved c =
    let w = c.in-Some.ensures.cases in
    rw c.wait_of-waited.ensures (sym (turn c.loop-bytes.left.now _ _ _ c.loop-bytes.waited (omega (arith, w.2)) w.0 w.1 c.action_of-action.ensures c.if-action-line.false) ∙ c.loop-bytes.invariant)

ended : (bytes : List ℕ) (line least most waited : ℕ) → length bytes < 4 → first_of line least most waited (actions_in bytes) ≡ None
unfolding first_of
ended bytes line least most waited h = rw (too_few bytes h)

pub returns : goal.returns
returns c =
    sym (ended c.loop-bytes.left.now _ _ _ c.loop-bytes.waited c.in_default.ensures.cases) ∙ c.loop-bytes.invariant
