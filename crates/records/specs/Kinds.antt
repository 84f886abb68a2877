-- The kinds of records by their numbers (01, "Session file"): "Kinds: 1 bytes, 2 fault, 3 samples", and those that a replay writes;
-- "unknown kind" is refusal 8.
use Rattle.std.specs.Prelude.{ℕ, cond, eqb, Result, Ok, Err}
use Rattle.refusals.specs.declared.Refusal.{Refusal}
use Rattle.refusals.specs.declared.Refusal.TheVariants as r
pub use Rattle.records.specs.declared.kinds.Kind.{Kind}
pub use Rattle.records.specs.declared.kinds.Kind.TheVariants.{Bytes, Fault, Samples}
pub use Rattle.records.specs.declared.kinds.OutputKind.{OutputKind}
pub use Rattle.records.specs.declared.kinds.OutputKind.TheVariants as o

abbrev pub kind_of : ℕ → Result Kind Refusal
kind_of n = cond (eqb n 1) (Ok Bytes) (cond (eqb n 2) (Ok Fault) (cond (eqb n 3) (Ok Samples) (Err r.Kind)))

-- "kind 0102 actions, then 0101 replies", "last 0104", "kind 01FF in place of 0104"
abbrev pub output_kind_of : ℕ → Result OutputKind Refusal
output_kind_of n =
    cond (eqb n 0x0101) (Ok o.Replies)
    (cond (eqb n 0x0102) (Ok o.Actions)
    (cond (eqb n 0x0104) (Ok o.Last)
    (cond (eqb n 0x01FF) (Ok o.Refusal) (Err r.Kind))))
