-- A code stored, with its reply for each case of the reports.
use mathlib.Core.Path.{refl}
use mathlib.Core.List.{[], ◌∷◌, map}
use Rattle.packet.specs.Packet.{low_bytes}
use Rattle.registers.specs.Registers.{bits_in}
use Rattle.decisions.specs.Said.{returned, sent, error_after, replies_of}
use Rattle.effects.proofs.Responses.{stored_said, error_coded, coded_on, coded_off}
use Rattle.effects.proofs.replies.respond.Goals as goal

pub returns-in-Returns : goal.returns-in-Returns
unfolding error_after replies_of
returns-in-Returns c =
    rw c.in-Returns.is (stored_said c.args.s _ _ _ (returned c.in-Returns.code ∷ []) c.store.ensures refl refl refl)

pub returns-in-ReturnsTwice : goal.returns-in-ReturnsTwice
unfolding error_after replies_of
returns-in-ReturnsTwice c =
    rw c.in-ReturnsTwice.is (stored_said c.args.s _ _ _ (returned 0x00 ∷ returned 0x00 ∷ []) c.store-in-ReturnsTwice.ensures refl refl refl)

pub returns-in-Checked : goal.returns-in-Checked
unfolding error_after replies_of
returns-in-Checked c =
    rw (c.in-Checked.is, ← c.checked-code.ensures) (stored_said c.args.s _ _ _ (returned c.checked-code.result ∷ []) c.store-in-Checked.ensures refl refl refl)

pub returns-in-ReturnsThenLow : goal.returns-in-ReturnsThenLow
returns-in-ReturnsThenLow c =
    let low = low_bytes (bits_in c.args.s.page) c.args.s.page.packet in
    rw c.in-ReturnsThenLow.is (stored_said c.args.s _ _ _ (returned 0x00 ∷ map sent low) c.store-in-ReturnsThenLow.ensures (error_coded c.args.s.page.error 0x00 low) (coded_on 0x00 low) (coded_off 0x00 low))
