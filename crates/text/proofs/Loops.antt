-- A loop that reads into a buffer what a definition in so many turns says, over plain variables: what holds at its head, and what a
-- turn does that is the last or not. Assumes nothing.
use Prim.Native.Nat.{ℕ, zero, suc, ◌≤◌, ◌<◌}
use mathlib.Core.Path.{◌≡◌, ap, ◌∙◌}
use mathlib.Core.List.{List, []}
use native.Mathlib.Omega.{arith}
use lib.ListN.{length}
use Rattle.wire.specs.Buffer.{Written}
use Rattle.wire.proofs.Buffers.{overwrite_length}
use Rattle.text.specs.Lists.{Read, Outcome, Assembled, read, prefixed, Reads}
use Rattle.text.proofs.Reading.{reads_none, reads_prefixed}

-- at the loop's head: o and x are the buffer at the start and now; there are turns enough for what is left, and reading the rest
-- reads the whole
pub record Loop (whole : Read) (o : List ℕ) (from : ℕ) (rest : ℕ → Read) (left : ℕ) (x : List ℕ) (size : ℕ) : Type 0 where
  pub turns : ℕ
  pub enough : left < turns
  pub reads : (y : List ℕ) (r : Assembled) → Reads (rest turns) x size y r → Reads whole o from y r
  pub within : size ≤ length o
  pub same : length x ≡ length o

module _ {whole : Read} {o : List ℕ} {from : ℕ} {rest : ℕ → Read} {left : ℕ} {x : List ℕ} {size : ℕ} (l : Loop whole o from rest left x size) where
  -- at the head there is a turn, so what follows from any turn holds
  by_turn : {B : Type 0} → ((n : ℕ) → left ≤ n → ((y : List ℕ) (r : Assembled) → Reads (rest (suc n)) x size y r → Reads whole o from y r) → B) → B
  by_turn {B} f = go l.turns l.enough l.reads
    where
      go : (n : ℕ) → left < n → ((y : List ℕ) (r : Assembled) → Reads (rest n) x size y r → Reads whole o from y r) → B
      go zero e h = absurd (omega arith)
      go (suc n) e h = f n (omega arith) h

  -- the turn is the last
  pub last_turn : (d : Read) → ((n : ℕ) → rest (suc n) ≡ d) → {y : List ℕ} {r : Assembled} → Reads d x size y r → Reads whole o from y r
  last_turn d e {y} {r} q = by_turn (λ n h f. f y r (rw (e n) q))

  -- .. and reads nothing
  pub loop_ends : (w : Outcome) → ((n : ℕ) → rest (suc n) ≡ read [] w) → Reads whole o from x (record { size = size; outcome = w })
  loop_ends w e = last_turn (read [] w) e (reads_none x size w (omega (arith, l.within, l.same)))

  -- the turn writes xs, and less is left after it
  pub loop_on : (xs : List ℕ) (next : ℕ → Read) (less : ℕ) → ((n : ℕ) → rest (suc n) ≡ prefixed xs (next n)) → less < left → {y : List ℕ} {k : ℕ} → Written x size xs y k → k ≤ length o → Loop whole o from next less y k
  loop_on xs next less e h {y} {k} w j =
      by_turn
      (λ n m f.
      record {
        turns = n;
        enough = omega (arith, h, m);
        reads = λ z r q. f z r (rw (e n) (reads_prefixed x size xs (next n) w q));
        within = j;
        same = ap length w.bytes ∙ overwrite_length x size xs ∙ l.same;
      })
