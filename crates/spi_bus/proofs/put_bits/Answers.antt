-- The goals that the search leaves.
use borrow.Author.Rules.{rules}
use mathlib.Core.Path.{◌≡◌, sym, ◌∙◌}
use mathlib.Core.Bool.{Bool, cond}
use mathlib.Core.List.{List, [], ◌∷◌}
use Prim.Native.Nat.{ℕ, ◌+◌, ◌-◌, ◌*◌, ◌/◌, ◌%◌, ◌≤◌, ◌<◌}
use native.Mathlib.Nat.{add-zero}
use native.Mathlib.Omega.{arith}
use lib.ListN.{length, get_or}
use Rattle.wire.specs.Action.{sck}
use Rattle.wire.proofs.Buffers.{written_append}
use Rattle.packet.specs.Packet.{width, register_bytes, sent, sent_at}
use Rattle.packet.proofs.Places.{length_sent, sent_at_lem, byte_sent}
use Rattle.lines.specs.Lines.{driven, for_each}
use Rattle.spi_bus.specs.Spi.{spi_bit}
use Rattle.lines.proofs.Rows.{owed_all, owed_at, owed_within, owed_fits, owed_turn, owed_none, second_within}
use Rattle.spi_bus.proofs.Exchanges.{bit_bytes}
use Rattle.spi_bus.proofs.put_bits.Goals as goal

-- the bit of a byte is the one sent at its place among all
sent_bit : (n : ℕ) (high : Bool) (r : List ℕ) (i j : ℕ) {b x : ℕ} → length r ≡ register_bytes → n ≤ width → i % 8 ≡ 0 → j < 8 → i + j < n
    → b ≡ get_or r (cond high (i / 8) (register_bytes - 1 - i / 8)) 0 → x ≡ sent_at high (b ∷ []) j → get_or (sent n high r) (i + j) 0 ≡ x
sent_bit n high r i j l m e hj h b x = sent_at_lem n high r (i + j) h ∙ byte_sent high register_bytes r i j l e hj (omega (arith, h, m)) b ∙ sym x

pub loop-k-init : goal.loop-k-init
loop-k-init c =
    let xs = sent c.args.n c.args.high c.args.r in
    (second_within (driven sck c.args.polarity ∷ []) (for_each (spi_bit c.args.polarity c.args.phase) xs) c.requires.1.1 (rw c.driven.ensures at c.put_actions-at.ensures), owed_all _ _ _ _)

pub loop-j-init : goal.loop-j-init
loop-j-init c =
    (owed_within c.loop-k.invariant.1 c.loop-k.invariant.0, λ l start o. owed_at (sym (add-zero _)) o)

pub put_actions-at-requires-in-loop-j : goal.put_actions-at-requires-in-loop-j
put_actions-at-requires-in-loop-j c =
    let n : length (sent c.args.n c.args.high c.args.r) ≡ c.args.n = length_sent c.args.n c.args.high c.args.r (omega (arith, c.well_formed.1.0.1.0.1)) in
    let h : 8 * c.loop-k.k + c.loop-j.j < c.args.n = omega (arith, c.loop-k-test.true, c.loop-j-test.true) in
    let e = sent_bit c.args.n c.args.high c.args.r (8 * c.loop-k.k) c.loop-j.j (omega (arith, c.well_formed.1.0.1.0.1)) c.requires.0 (omega arith) c.loop-j-test.true h c.byte_to_send-byte.ensures c.bit_of_byte-bit.ensures.0 in
    rw c.bit_row.ensures (owed_fits (spi_bit c.args.polarity c.args.phase) _ (c.loop-j.invariant.1 _ _ c.loop-k.invariant.1) (omega (arith, n, h)) e c.loop-k.invariant.0)

pub loop-j-preserved : goal.loop-j-preserved
loop-j-preserved c =
    let n : length (sent c.args.n c.args.high c.args.r) ≡ c.args.n = length_sent c.args.n c.args.high c.args.r (omega (arith, c.well_formed.1.0.1.0.1)) in
    let h : 8 * c.loop-k.k + c.loop-j.j < c.args.n = omega (arith, c.loop-k-test.true, c.loop-j-test.true) in
    let e = sent_bit c.args.n c.args.high c.args.r (8 * c.loop-k.k) c.loop-j.j (omega (arith, c.well_formed.1.0.1.0.1)) c.requires.0 (omega arith) c.loop-j-test.true h c.byte_to_send-byte.ensures c.bit_of_byte-bit.ensures.0 in
    let w = rw c.bit_row.ensures at c.put_actions-at-in-loop-j.ensures in
    let now = owed_turn (spi_bit c.args.polarity c.args.phase) _ (c.loop-j.invariant.1 _ _ c.loop-k.invariant.1) (omega (arith, n, h)) e w in
    (owed_within now c.loop-k.invariant.0, λ l start o. owed_at (omega arith) (owed_turn (spi_bit c.args.polarity c.args.phase) _ (c.loop-j.invariant.1 l start o) (omega (arith, n, h)) e w))

pub overflow_add-at : goal.overflow_add-at
overflow_add-at c =
    let w = rw c.bit_row.ensures at c.put_actions-at-in-loop-j.ensures in
    omega (arith, bit_bytes c.args.polarity c.args.phase c.bit_of_byte-bit.result, w.after, c.loop-j.invariant.0)

pub loop-k-preserved : goal.loop-k-preserved
loop-k-preserved c =
    (c.loop-k.invariant.0, owed_at (omega arith) (c.loop-j.invariant.1 _ _ c.loop-k.invariant.1))

pub loop-i-init : goal.loop-i-init
loop-i-init c =
    (owed_within c.loop-k.invariant.1 c.loop-k.invariant.0, λ l start o. o)

pub put_actions-at-requires-in-loop-i : goal.put_actions-at-requires-in-loop-i
put_actions-at-requires-in-loop-i c =
    let n : length (sent c.args.n c.args.high c.args.r) ≡ c.args.n = length_sent c.args.n c.args.high c.args.r (omega (arith, c.well_formed.1.0.1.0.1)) in
    let e = sent_at_lem c.args.n c.args.high c.args.r c.loop-i.i (search rules) ∙ sym c.bit_within-bit.ensures.0 in
    rw c.bit_row-in-loop-i.ensures (owed_fits (spi_bit c.args.polarity c.args.phase) _ (c.loop-i.invariant.1 _ _ (owed_at (omega arith) c.loop-k.invariant.1)) (omega arith) e c.loop-k.invariant.0)

pub overflow_add-at-in-loop-i : goal.overflow_add-at-in-loop-i
overflow_add-at-in-loop-i c =
    let w = rw c.bit_row-in-loop-i.ensures at c.put_actions-at-in-loop-i.ensures in
    omega (arith, bit_bytes c.args.polarity c.args.phase c.bit_within-bit.result, w.after, c.loop-i.invariant.0)

pub loop-i-preserved : goal.loop-i-preserved
loop-i-preserved c =
    let n : length (sent c.args.n c.args.high c.args.r) ≡ c.args.n = length_sent c.args.n c.args.high c.args.r (omega (arith, c.well_formed.1.0.1.0.1)) in
    let e = sent_at_lem c.args.n c.args.high c.args.r c.loop-i.i (search rules) ∙ sym c.bit_within-bit.ensures.0 in
    let w = rw c.bit_row-in-loop-i.ensures at c.put_actions-at-in-loop-i.ensures in
    let now = owed_turn (spi_bit c.args.polarity c.args.phase) _ (c.loop-i.invariant.1 _ _ (owed_at (omega arith) c.loop-k.invariant.1)) (omega arith) e w in
    (owed_within now c.loop-k.invariant.0, λ l start o. owed_turn (spi_bit c.args.polarity c.args.phase) _ (c.loop-i.invariant.1 l start o) (omega arith) e w)

pub returns : goal.returns
returns c =
    written_append _ _ _ _ (rw c.driven.ensures at c.put_actions-at.ensures) (owed_none _ _ (c.loop-i.invariant.1 _ _ (owed_at (omega arith) c.loop-k.invariant.1)) (omega (arith, length_sent c.args.n c.args.high c.args.r (omega (arith, c.well_formed.1.0.1.0.1)))))
