-- A register filled byte by byte: what each byte holds of bits that stand below zeros, at any width and any number of bits.
-- Clearing and receiving are both of this form. Assumes nothing.
use mathlib.Core.Path.{◌≡◌, refl, sym, ap, ◌∙◌}
use mathlib.Core.Bool.{Bool}
use mathlib.Core.List.{List, [], ◌∷◌, ◌++◌}
use Prim.Native.Nat.{ℕ, zero, suc, ◌+◌, ◌-◌, ◌*◌, ◌%◌, ◌^◌, ◌≤◌, ◌<◌, min}
use native.Mathlib.Nat.{zero-add, sub-zero, zero-sub, suc-sub-suc, le_refl, not-suc-le-zero}
use native.Mathlib.Numerals.{sub-one}
use native.Mathlib.Omega.{arith}
use lib.ListN.{length, get_or, take, drop, set, length-set, drop_of_length-le}
use lib.Seq.{take-nil, drop-nil, drop-cons, drop-drop, drop-append-add, take-append_seam, get_or-set_same, drop-set-lt, slice}
use Rattle.packet.specs.Register.{byte_bits, bits, number, register, zeros}
use Rattle.packet.specs.Packet.{kept, order, bits_received}
use Rattle.packet.proofs.Bytes.{length_byte, length_register, number_low}

-- A BYTE OF A REGISTER

pub register_at : (k j : ℕ) (bs : List ℕ) → j < k → get_or (register k bs) j 0 ≡ number 0 (take 8 (drop (8 * j) bs))
unfolding register
register_at zero j bs h = absurd (not-suc-le-zero h)
register_at (suc k) zero bs h = refl
register_at (suc k) (suc j) bs h =
    let e : 8 + 8 * j ≡ 8 * suc j = omega arith in
    register_at k j (drop 8 bs) (omega arith) ∙ rw (drop-drop (8 * j) 8 bs, e)

-- BITS BELOW ZEROS

drop_padded : (n s : ℕ) (xs : List ℕ) → drop n (zeros s ++ xs) ≡ zeros (s - n) ++ drop (n - s) xs
drop_padded zero s xs = rw (sub-zero, zero-sub)
drop_padded (suc n) zero xs = rw (zero-sub, sub-zero)
drop_padded (suc n) (suc s) xs = rw (suc-sub-suc s n, suc-sub-suc n s) (drop_padded n s xs)

number_padded : (n s : ℕ) (xs : List ℕ) → number 0 (take n (zeros s ++ xs)) ≡ number 0 (take (n - s) xs)
unfolding number
number_padded zero s xs = rw zero-sub
number_padded (suc n) zero xs = rw sub-zero
number_padded (suc n) (suc s) xs = rw suc-sub-suc (number_padded n s xs)

-- a byte has those of the bits whose places it has
padded_byte : (k s j : ℕ) (xs : List ℕ) → j < k → get_or (register k (zeros s ++ xs)) j 0 ≡ number 0 (take (8 - (s - 8 * j)) (drop (8 * j - s) xs))
padded_byte k s j xs h = register_at k j (zeros s ++ xs) h ∙ rw (drop_padded (8 * j) s xs) (number_padded 8 (s - 8 * j) (drop (8 * j - s) xs))

pub drop_take : (f m : ℕ) (l : List ℕ) → drop f (take (f + m) l) ≡ take m (drop f l)
drop_take zero m l = rw zero-add
drop_take (suc f) m [] = rw (take-nil (suc f + m)) (sym (take-nil m))
drop_take (suc f) m (x ∷ l) = let e : suc f + m ≡ suc (f + m) = omega arith in rw e (drop_take f m l)

padded_slice : (k s j : ℕ) (xs : List ℕ) → j < k → get_or (register k (zeros s ++ xs)) j 0 ≡ number 0 (slice (8 * j - s) (8 * j + 8 - s) xs)
padded_slice k s j xs h =
    let e : 8 * j + 8 - s ≡ (8 * j - s) + (8 - (s - 8 * j)) = omega arith in
    padded_byte k s j xs h ∙ rw e (ap (number 0) (sym (drop_take (8 * j - s) (8 - (s - 8 * j)) xs)))

-- CLEARING

pub drop_bytes : (j : ℕ) (r : List ℕ) → drop (8 * j) (bits r) ≡ bits (drop j r)
unfolding bits
drop_bytes zero r = refl
drop_bytes (suc j) [] = drop-nil (8 * suc j)
drop_bytes (suc j) (b ∷ r) =
    let e : 8 * suc j ≡ length (byte_bits b) + 8 * j = omega (arith, length_byte b) in
    rw e (drop-append-add (byte_bits b) (bits r) (8 * j) ∙ drop_bytes j r)

first_part : (d : ℕ) (xs ys : List ℕ) → take (length xs - d) (drop d (xs ++ ys)) ≡ drop d xs
first_part zero xs ys = rw sub-zero (take-append_seam xs ys)
first_part (suc d) [] ys = rw zero-sub
first_part (suc d) (x ∷ xs) ys = rw suc-sub-suc (first_part d xs ys)

farther : (s p : ℕ) → s + (p - s) ≡ p + (s - p)
farther s p = omega arith

left_above : (below n j : ℕ) → min (n - 8 * below) 8 ≡ 8 - (8 * (j + 1 + below) - n - 8 * j)
left_above below n j = omega arith

-- a byte of a cleared register keeps as many of its low bits as the bytes below it leave of n
pub kept_at : (k n j left : ℕ) (r : List ℕ) → length r ≡ k → j < k → left ≡ n - 8 * (k - (j + 1)) → get_or r j 0 % 2 ^ min left 8 ≡ get_or (register k (kept (8 * k) n (bits r))) j 0
unfolding kept bits
kept_at k n j left r l h e =
    let s = 8 * k - n in
    let d = s - 8 * j in
    let b = get_or r j 0 in
    let whole : j + 1 + (k - (j + 1)) ≡ k = omega arith in
    let m : min left 8 ≡ 8 - d = ap (λ (x : ℕ). min x 8) e ∙ left_above (k - (j + 1)) n j ∙ ap (λ (x : ℕ). 8 - (8 * x - n - 8 * j)) whole in
    let f : drop (8 * j - s) (drop s (bits r)) ≡ drop d (byte_bits b ++ bits (drop (suc j) r)) =
    drop-drop (8 * j - s) s (bits r) ∙ ap (λ (x : ℕ). drop x (bits r)) (farther s (8 * j)) ∙ sym (drop-drop d (8 * j) (bits r))
    ∙ ap (drop d) (drop_bytes j r ∙ ap bits (drop-cons r j 0 (omega arith))) in
    let g : take (8 - d) (drop d (byte_bits b ++ bits (drop (suc j) r))) ≡ drop d (byte_bits b) =
    ap (λ (x : ℕ). take (x - d) (drop d (byte_bits b ++ bits (drop (suc j) r)))) (sym (length_byte b)) ∙ first_part d (byte_bits b) (bits (drop (suc j) r)) in
    rw m (sym (padded_byte k s j (drop s (bits r)) h ∙ rw (f, g) (number_low b d)))

-- RECEIVING

-- a byte of a received register has the levels of its places, as they stand in order
pub received_at : (k n j first end : ℕ) (high : Bool) (rs : List ℕ) → length rs ≡ n → j < k → first ≡ 8 * j - (8 * k - n) → end ≡ 8 * j + 8 - (8 * k - n)
    → number 0 (slice first end (order high rs)) ≡ get_or (register k (bits_received (8 * k) high rs)) j 0
unfolding bits_received
received_at k n j first end high rs l h f e = rw (l, f, e) (sym (padded_slice k (8 * k - n) j (order high rs) h))

-- THE LOOPS

-- before the first turn nothing is to stand past the end
pub fill_start : (k : ℕ) (q bs : List ℕ) → length q ≡ k → drop k q ≡ drop k (register k bs)
fill_start k q bs e = drop_of_length-le q {i = k} (omega arith) ∙ sym (drop_of_length-le (register k bs) {i = k} (omega (arith, length_register k bs)))

drop_set : (l : List ℕ) (i v : ℕ) → i < length l → drop i (set l i v) ≡ v ∷ drop (suc i) l
drop_set l i v h =
    drop-cons (set l i v) i 0 (rw length-set h) ∙ rw (get_or-set_same l i v 0 h, drop-set-lt (suc i) l i v (le_refl (suc i)))

-- a turn of a loop that fills a register from its lowest byte: what stands from a place on is what is to stand there
pub fill_turn : (q t : List ℕ) (i v : ℕ) → 0 < i → i ≤ length q → i ≤ length t → v ≡ get_or t (i - 1) 0 → drop i q ≡ drop i t → drop (i - 1) (set q (i - 1) v) ≡ drop (i - 1) t
fill_turn q t zero v h k l e d = absurd (not-suc-le-zero h)
fill_turn q t (suc i) v h k l e d = rw (sub-one, e, sub-one) (drop_set q i (get_or t i 0) k ∙ ap (λ (r : List ℕ). get_or t i 0 ∷ r) d ∙ sym (drop-cons t i 0 l))
