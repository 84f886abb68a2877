-- What is read into a buffer, one part after another. Assumes nothing.
use Prim.Native.Nat.{ℕ, ◌≤◌}
use mathlib.Core.Path.{refl, sym, ap}
use mathlib.Core.List.{List, []}
use native.Mathlib.Nat.{add-zero}
use native.Mathlib.Omega.{arith}
use lib.ListN.{length}
use Rattle.wire.specs.Buffer.{Written}
use Rattle.wire.proofs.Buffers.{overwrite_none, overwrite_length, written_append}
use Rattle.text.specs.Lists.{Read, Outcome, Assembled, read, prefixed, Reads}

-- nothing more is read
pub reads_none : (x : List ℕ) (n : ℕ) (w : Outcome) → n ≤ length x → Reads (read [] w) x n x (record { size = n; outcome = w })
reads_none x n w h = record { bytes = sym (overwrite_none x n); size = sym (add-zero n); outcome = refl; within = h }

-- bytes are written, and then others are read
pub reads_prefixed : (x : List ℕ) (n : ℕ) (xs : List ℕ) (d : Read) {m y : List ℕ} {k : ℕ} {r : Assembled} → Written x n xs m k → Reads d m k y r → Reads (prefixed xs d) x n y r
reads_prefixed x n xs d {m} {y} {k} {r} w q =
    let v : Written m k d.bytes y r.size = record { bytes = q.bytes; after = q.size } in
    let j = written_append x n xs d.bytes w v in
    record { bytes = j.bytes; size = j.after; outcome = q.outcome; within = omega (arith, q.within, ap length w.bytes, overwrite_length x n xs) }
