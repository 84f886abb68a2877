-- A header in front of bytes that stand there, and a record as a header and bytes. Assumes nothing.
use Prim.Native.Nat.{ℕ, ◌+◌}
use mathlib.Core.Path.{◌≡◌, ap, subst}
use mathlib.Core.List.{List}
use native.Mathlib.Omega.{arith}
use borrow.Author.Tests.{eq-eqb, ne_eqb}
use lib.ListN.{length}
use Rattle.wire.specs.Buffer.{overwrite, Written}
use Rattle.wire.proofs.Buffers.{written_append}
use Rattle.records.specs.Records.{head_of, record_of}
use Rattle.transcript.specs.Events.{Headed}

-- A HEADER in front of so many bytes that stand there

pub headed_none : (o : List ℕ) (kind size : ℕ) → size ≡ 0 → Headed o kind size o 0
headed_none o kind size e = let q = eq-eqb size 0 e in record { bytes = rw q; after = rw q }

pub headed_some : (o : List ℕ) (kind size : ℕ) {x : List ℕ} {m : ℕ} → (size ≡ 0 → ⊥) → Written o 0 (head_of kind size) x m → Headed o kind size x (m + size)
headed_some o kind size ne w = let q = ne_eqb size 0 ne in record { bytes = rw q w.bytes; after = rw q (omega (arith, w.after)) }

-- A RECORD: its header written, and then so many bytes after it
pub record_from_lem : (o : List ℕ) (at kind : ℕ) (xs : List ℕ) {m x : List ℕ} {k n : ℕ} → k ≡ length xs → Written o at (head_of kind k) m n → x ≡ overwrite m n xs → Written o at (record_of kind xs) x (n + k)
record_from_lem o at kind xs {m} {x} {k} {n} e w b =
    written_append o at (head_of kind (length xs)) xs (subst (λ (v : ℕ). Written o at (head_of kind v) m n) e w) (record { bytes = b; after = ap (λ (v : ℕ). n + v) e })
