-- A part of the buffer is filled.
use Rattle.std.proofs.Common.{rules, arith, ◌≡◌, ℕ, ◌+◌, ◌-◌, ◌≤◌, length, List, replicate, take, drop, ap, append_assoc, ◌∙◌}
use borrow.Rule.Slice.PartMut.{put_mid}
use lib.ListN.{length-replicate, length-take, length-drop}
use lib.Seq.{drop-drop}
use Rattle.wire.specs.Buffer.{Written}
use Rattle.wire.proofs.Buffers.{overwrite_right}
use Rattle.text.proofs.lists.fill.Goals as goal

filled : (o z : List ℕ) (at b k : ℕ) → at + k ≤ length o → z ≡ replicate k b → Written o at (replicate k b) (put_mid at (at + k - at) o z) (at + k)
filled o z at b k h e =
    let n : at + k - at ≡ k = omega arith in
    record { bytes = rw (e, n, (overwrite_right o at (replicate k b)).parts (omega (arith, length-replicate k b)), length-replicate k b) (simp (append_assoc, drop-drop)); after = rw (length-replicate k b) }

pub returns : goal.returns
returns c =
    let a = c.args in
    filled a.body.now _ a.at a.byte a.count c.requires (c.fill.ensures.after (λ y e. e) ∙ ap (λ (n : ℕ). replicate n a.byte) (simp (length-take, length-drop) (omega arith)))
