-- The bit at a place, and the order on the wire, at any width. Assumes nothing.
use mathlib.Core.Path.{◌≡◌, refl, sym, ap, ◌∙◌}
use mathlib.Core.Bool.{Bool, true, false, cond}
use mathlib.Core.List.{List, [], ◌∷◌, ◌++◌, reverse, reverse-cons}
use Prim.Native.Nat.{ℕ, zero, suc, ◌+◌, ◌-◌, ◌*◌, ◌/◌, ◌%◌, ◌^◌, ◌≤◌, ◌<◌}
use native.Mathlib.Nat.{not-suc-le-zero}
use native.Mathlib.Decide.{dec_lt}
use native.Mathlib.Omega.{arith}
use lib.ListN.{length, get_or, length-reverse, get_or-append}
use lib.Seq.{get_or_at, get_or-append-add, get_or-take, length-take-le}
use Rattle.packet.specs.Register.{byte_bits, bits}
use Rattle.packet.specs.Packet.{order, sent, sent_at}
use Rattle.packet.proofs.Bytes.{length_byte, length_bits, byte_at}

-- A BIT OF A REGISTER

bits_at : (l : List ℕ) (q j : ℕ) → q < length l → j < 8 → get_or (bits l) (8 * q + j) 0 ≡ get_or l q 0 / 2 ^ (7 - j) % 2
unfolding bits
bits_at [] q j h hj = absurd (not-suc-le-zero h)
bits_at (b ∷ l) zero j h hj =
    let e : 8 * 0 + j ≡ j = omega arith in
    rw e (get_or-append (byte_bits b) (bits l) 0 j (omega (arith, length_byte b)) ∙ byte_at b j hj)
bits_at (b ∷ l) (suc q) j h hj =
    let e : 8 * suc q + j ≡ length (byte_bits b) + (8 * q + j) = omega (arith, length_byte b) in
    rw e (get_or-append-add (byte_bits b) (bits l) (8 * q + j) 0 ∙ bits_at l q j (omega arith) hj)

pub bit_place : (l : List ℕ) (p : ℕ) → p < 8 * length l → get_or l (p / 8) 0 / 2 ^ (7 - p % 8) % 2 ≡ get_or (bits l) p 0
bit_place l p h =
    let e : 8 * (p / 8) + p % 8 ≡ p = omega arith in
    sym (bits_at l (p / 8) (p % 8) (omega arith) (omega arith)) ∙ ap (λ (n : ℕ). get_or (bits l) n 0) e

-- COUNTED FROM THE END

pub get_d_reverse : (l : List ℕ) (i : ℕ) → i < length l → get_or (reverse l) i 0 ≡ get_or l (length l - 1 - i) 0
get_d_reverse [] i h = absurd (not-suc-le-zero h)
get_d_reverse (x ∷ l) i h = rw reverse-cons (go (dec_lt i (length l)) (get_d_reverse l i))
  where
    go : Dec (i < length l) → (i < length l → get_or (reverse l) i 0 ≡ get_or l (length l - 1 - i) 0) → get_or (reverse l ++ (x ∷ [])) i 0 ≡ get_or (x ∷ l) (suc (length l) - 1 - i) 0
    go (yes k) ih =
        let e : suc (length l) - 1 - i ≡ suc (length l - 1 - i) = omega arith in
        get_or-append (reverse l) (x ∷ []) 0 i (omega (arith, length-reverse l)) ∙ ih k ∙ rw e
    go (no k) ih =
        let e : suc (length l) - 1 - i ≡ 0 = omega arith in
        get_or_at (reverse l) x [] 0 i (omega (arith, length-reverse l)) ∙ rw e

-- THE ORDER ON THE WIRE

pub length_order : (high : Bool) (bs : List ℕ) → length (order high bs) ≡ length bs
unfolding order
length_order true bs = refl
length_order false bs = length-reverse bs

-- a step's place: the step itself, or as far from the end
pub order_at : (high : Bool) (w : ℕ) (bs : List ℕ) (i : ℕ) → length bs ≡ w → i < w → get_or bs (cond high i (w - 1 - i)) 0 ≡ get_or (order high bs) i 0
unfolding order
order_at true w bs i e h = refl
order_at false w bs i e h = rw (← e) (sym (get_d_reverse bs i (omega arith)))

-- THE BITS SENT

pub length_sent : (n : ℕ) (high : Bool) (r : List ℕ) → n ≤ 8 * length r → length (sent n high r) ≡ n
length_sent n high r h = length-take-le n (order high (bits r)) (omega (arith, length_order high (bits r), length_bits r))

-- the bit sent at a step is the one at that place of all that are sent
pub sent_at_lem : (n : ℕ) (high : Bool) (r : List ℕ) (i : ℕ) → i < n → get_or (sent n high r) i 0 ≡ sent_at high r i
sent_at_lem n high r i h = get_or-take n (order high (bits r)) i 0 h

-- BYTE BY BYTE: eight steps from a multiple of eight on are those of one byte

pub one_byte : (b j : ℕ) → j < 8 → b / 2 ^ (7 - j) % 2 ≡ get_or (bits (b ∷ [])) j 0
one_byte b j h =
    let e : 8 * 0 + j ≡ j = omega arith in
    sym (bits_at (b ∷ []) 0 j (omega arith) h) ∙ ap (λ (n : ℕ). get_or (bits (b ∷ [])) n 0) e

same_bit : (r : List ℕ) (q j n : ℕ) → q < length r → j < 8 → 8 * q + j ≡ n → get_or (bits (get_or r q 0 ∷ [])) j 0 ≡ get_or (bits r) n 0
same_bit r q j n h hj e = sym (one_byte (get_or r q 0) j hj) ∙ sym (bits_at r q j h hj) ∙ ap (λ (m : ℕ). get_or (bits r) m 0) e

pub byte_sent : (high : Bool) (w : ℕ) (r : List ℕ) (i j : ℕ) {b : ℕ} → length r ≡ w → i % 8 ≡ 0 → j < 8 → i + j < 8 * w → b ≡ get_or r (cond high (i / 8) (w - 1 - i / 8)) 0
    → sent_at high r (i + j) ≡ sent_at high (b ∷ []) j
byte_sent high w r i j {b} l e hj h q =
    sym (order_at high (8 * w) (bits r) (i + j) (length_bits r ∙ ap (λ (k : ℕ). 8 * k) l) h)
    ∙ sym (mid high)
    ∙ ap (λ (x : ℕ). get_or (bits (x ∷ [])) (cond high j (7 - j)) 0) (sym q)
    ∙ order_at high 8 (bits (b ∷ [])) j (length_bits (b ∷ [])) hj
  where
    mid : (t : Bool) → get_or (bits (get_or r (cond t (i / 8) (w - 1 - i / 8)) 0 ∷ [])) (cond t j (7 - j)) 0 ≡ get_or (bits r) (cond t (i + j) (8 * w - 1 - (i + j))) 0
    mid true = same_bit r (i / 8) j (i + j) (omega arith) hj (omega arith)
    mid false = same_bit r (w - 1 - i / 8) (7 - j) (8 * w - 1 - (i + j)) (omega arith) (omega arith) (omega arith)
