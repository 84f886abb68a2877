-- What the library copies into a part of a buffer is what is stored there.
use mathlib.Core.Path.{refl, sym, ap, ◌∙◌}
use mathlib.Core.List.{List, ◌++◌}
use Prim.Native.Nat.{ℕ, ◌+◌, ◌-◌}
use native.Mathlib.Nat.{le_refl}
use native.Mathlib.Omega.{arith}
use lib.ListN.{length, take, drop}
use lib.Seq.{take_all}
use Rattle.std.proofs.lemmas.Slice.{put_mid-paste}
use Rattle.wire.proofs.Buffers.{overwrite_right}
use Rattle.wire.proofs.put_bytes.Goals as goal

pub returns : goal.returns
returns c =
    let out = c.args.out.now in
    let row = c.args.row.now in
    let at = c.args.at in
    let n = length row in
    record {
      bytes = put_mid-paste at (at + n - at) out _ row n c.copy_from_slice.ensures.after (omega arith) refl
          ∙ ap (λ (r : List ℕ). take at out ++ r ++ drop (at + n) out) (take_all n row (le_refl n))
          ∙ sym ((overwrite_right out at row).parts c.requires);
      after = refl;
    }
