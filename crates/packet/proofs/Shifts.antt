-- The shift register of an exchange sends and holds what 01 says, at any width and any number of bits. Assumes nothing.
use mathlib.Core.Path.{◌≡◌, sym, ap, ◌∙◌}
use mathlib.Core.Bool.{Bool, true, false}
use mathlib.Core.List.{List, ◌++◌, append_assoc, reverse, reverse-append}
use Prim.Native.Nat.{ℕ, ◌-◌, ◌*◌, ◌/◌, ◌≤◌}
use native.Mathlib.Omega.{arith}
use lib.ListN.{length, take, drop, length-append, length-drop, length-replicate, length-reverse}
use lib.Seq.{take-append-le, drop-append-le, take_at, drop_at}
use Rattle.packet.specs.Register.{bits, register, zeros}
use Rattle.packet.specs.Packet.{kept, order, bits_received}
use Rattle.packet.specs.Shift.{shifted, lowered, Exchanges}
use Rattle.packet.proofs.Bytes.{length_bits}
use Rattle.packet.proofs.Places.{length_order}

-- the low n bits are kept, whatever stands above them
kept_low : (w : ℕ) (xs ys : List ℕ) → length xs ≡ w - length ys → kept w (length ys) (xs ++ ys) ≡ zeros (w - length ys) ++ ys
unfolding kept
kept_low w xs ys e = ap (λ (zs : List ℕ). zeros (w - length ys) ++ zs) (drop_at xs ys (w - length ys) e)

-- the bits received stand behind those that were not sent
behind : (high : Bool) (rs bs : List ℕ) → length rs ≤ length bs → shifted high rs bs ≡ order high (drop (length rs) (order high bs) ++ rs)
unfolding shifted
behind high rs bs h = ap (order high) (drop-append-le (length rs) (order high bs) rs (omega (arith, length_order high bs)))

held : (w : ℕ) (high : Bool) (rs bs : List ℕ) → length bs ≡ w → length rs ≤ w → kept w (length rs) (lowered w (length rs) high (shifted high rs bs)) ≡ bits_received w high rs
unfolding lowered bits_received order
held w true rs bs l h = ap (kept w (length rs)) (behind true rs bs (omega arith)) ∙ kept_low w (drop (length rs) bs) rs (omega (arith, length-drop (length rs) bs))
held w false rs bs l h =
    let n = length rs in
    let zs = zeros (w - n) in
    let others = reverse (drop n (reverse bs)) in
    let e : shifted false rs bs ≡ reverse rs ++ others = behind false rs bs (omega arith) ∙ reverse-append (drop n (reverse bs)) rs in
    let z : length zs ≡ w - n = length-replicate (w - n) 0 in
    let k : length (zs ++ reverse rs) ≡ w = omega (arith, length-append zs (reverse rs), z, length-reverse rs) in
    let f : take w (zs ++ shifted false rs bs) ≡ zs ++ reverse rs =
    ap (λ (xs : List ℕ). take w (zs ++ xs)) e ∙ ap (take w) (sym (append_assoc zs (reverse rs) others)) ∙ take_at (zs ++ reverse rs) others w k in
    let g : kept w (length (reverse rs)) (zs ++ reverse rs) ≡ zeros (w - length (reverse rs)) ++ reverse rs =
    kept_low w zs (reverse rs) (z ∙ ap (λ (m : ℕ). w - m) (sym (length-reverse rs))) in
    ap (kept w n) f ∙ rw (length-reverse rs) at g

-- for a register of w bits that takes in no more than it has
pub exchange_right : (w : ℕ) (high : Bool) (rs r : List ℕ) → 8 * length r ≡ w → length rs ≤ w → Exchanges w high rs r
exchange_right w high rs r l h = record {
  leaves = take-append-le (length rs) (order high (bits r)) rs (omega (arith, length_order high (bits r), length_bits r));
  holds = ap (register (w / 8)) (held w high rs (bits r) (length_bits r ∙ l) h);
}
