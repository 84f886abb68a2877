-- A register moved up: moves add up, and each byte afterwards has its bits from two bytes in a row. At any width, by any number of
-- bits. Assumes nothing.
use mathlib.Core.Path.{◌≡◌, refl, sym, ap, ◌∙◌}
use mathlib.Core.List.{List, [], ◌∷◌, ◌++◌, append_assoc, append-nil}
use Prim.Native.Nat.{ℕ, zero, suc, ◌+◌, ◌-◌, ◌*◌, ◌/◌, ◌%◌, ◌^◌, ◌≤◌, ◌<◌}
use native.Mathlib.Omega.{arith}
use lib.ListN.{length, get_or, take, drop, length-append, length-drop, length-replicate, replicate-append-replicate, take-append-drop}
use lib.Seq.{drop-cons, drop-drop, drop-append-le, take-append-le, length-take-le}
use Rattle.packet.specs.Register.{byte_bits, bits, number, register, zeros}
use Rattle.packet.specs.Packet.{moved_up}
use Rattle.packet.specs.Alignment.{bits_up, moves_by_one, bytes_and_rest, Alignment}
use Rattle.packet.proofs.Bytes.{Bits, bits_join, bits_drop, bits_take, bits_small, bits_zeros, bits_append, bits_register, length_bits, length_register, number_parts, number_pair}
use Rattle.packet.proofs.Filled.{register_at, drop_bytes, drop_take}

-- MOVES ADD UP

length_padded : (bs : List ℕ) (m : ℕ) → length (bs ++ zeros m) ≡ length bs + m
length_padded bs m = length-append bs (zeros m) ∙ ap (λ (n : ℕ). length bs + n) (length-replicate m 0)

more_zeros : (bs : List ℕ) (a b : ℕ) → bs ++ zeros a ++ zeros b ≡ bs ++ zeros (a + b)
more_zeros bs a b = append_assoc bs (zeros a) (zeros b) ∙ ap (λ (zs : List ℕ). bs ++ zs) (replicate-append-replicate a b 0)

moves_add : (a b : ℕ) (bs : List ℕ) → moved_up b (moved_up a bs) ≡ moved_up (a + b) bs
unfolding moved_up
moves_add a b bs =
    ap (drop b) (sym (drop-append-le a (bs ++ zeros a) (zeros b) (omega (arith, length_padded bs a))))
    ∙ drop-drop b a (bs ++ zeros a ++ zeros b)
    ∙ ap (drop (a + b)) (more_zeros bs a b)

not_moved : (bs : List ℕ) → moved_up 0 bs ≡ bs
unfolding moved_up
not_moved bs = append-nil bs

-- a register that is not moved is itself
pub none_up : (k : ℕ) (r : List ℕ) → register k (bits r) ≡ r → bits_up k 0 r ≡ r
none_up k r e = ap (register k) (not_moved (bits r)) ∙ e

bits_up_lem : (k m : ℕ) (r : List ℕ) → length r ≡ k → bits (bits_up k m r) ≡ moved_up m (bits r)
unfolding moved_up
bits_up_lem k m r l =
    let bs = bits r ++ zeros m in
    let n : length bs ≡ 8 * k + m = omega (arith, length_padded (bits r) m, length_bits r) in
    bits_register k (drop m bs) (omega (arith, length-drop m bs)) (bits_drop m bs (bits_join (bits r) (zeros m) (bits_small r) (bits_zeros m)))

single : (k m : ℕ) (r : List ℕ) → register k (bits r) ≡ r → moves_by_one k m r ≡ bits_up k m r
unfolding moves_by_one
single k zero r e = sym (none_up k r e)
single k (suc m) r e =
    let l : length r ≡ k = ap length (sym e) ∙ length_register k (bits r) in
    let s : m + 1 ≡ suc m = omega arith in
    ap (bits_up k 1) (single k m r e) ∙ ap (λ (bs : List ℕ). register k (moved_up 1 bs)) (bits_up_lem k m r l) ∙ ap (register k) (moves_add m 1 (bits r))
    ∙ ap (λ (i : ℕ). bits_up k i r) s

-- WHOLE BYTES

zero_bytes : (c : ℕ) → bits (zeros c) ≡ zeros (8 * c)
unfolding bits byte_bits
zero_bytes zero = refl
zero_bytes (suc c) =
    let e : 8 + 8 * c ≡ 8 * suc c = omega arith in
    ap (λ (zs : List ℕ). zeros 8 ++ zs) (zero_bytes c) ∙ replicate-append-replicate 8 (8 * c) 0 ∙ ap (λ (n : ℕ). zeros n) e

more_bytes : (r : List ℕ) (c : ℕ) → bits (r ++ zeros c) ≡ bits r ++ zeros (8 * c)
more_bytes r c = bits_append r (zeros c) ∙ ap (λ (zs : List ℕ). bits r ++ zs) (zero_bytes c)

bytes_up : (c : ℕ) (r : List ℕ) → bits (moved_up c r) ≡ moved_up (8 * c) (bits r)
unfolding moved_up
bytes_up c r = sym (drop_bytes c (r ++ zeros c)) ∙ ap (drop (8 * c)) (more_bytes r c)

whole : (k m : ℕ) (r : List ℕ) → bytes_and_rest k m r ≡ bits_up k m r
whole k m r =
    let e : 8 * (m / 8) + m % 8 ≡ m = omega arith in
    ap (λ (bs : List ℕ). register k (moved_up (m % 8) bs)) (bytes_up (m / 8) r)
    ∙ ap (register k) (moves_add (8 * (m / 8)) (m % 8) (bits r))
    ∙ ap (λ (i : ℕ). bits_up k i r) e

pub alignment_right : (w n : ℕ) (r : List ℕ) → Alignment w n r
alignment_right w n r = record {
  same = λ e. whole (w / 8) (w - n) r ∙ sym (single (w / 8) (w - n) r e);
  aligns = whole (w / 8) (w - n) r;
}

-- EIGHT BITS AS A NUMBER

number_part : (bs : List ℕ) (f m : ℕ) → Bits bs → f + m ≤ length bs → number 0 bs / 2 ^ (length bs - (f + m)) % 2 ^ m ≡ number 0 (take m (drop f bs))
number_part bs f m s h =
    let front = take (f + m) bs in
    let part = drop f front in
    let l : length part ≡ m = omega (arith, length-drop f front, length-take-le (f + m) bs h) in
    let above : number 0 bs / 2 ^ (length bs - (f + m)) ≡ number 0 front =
    rw (take-append-drop (f + m) bs, length-drop (f + m) bs) at (number_parts front (drop (f + m) bs) (bits_drop (f + m) bs s)).0 in
    let below : number 0 front % 2 ^ m ≡ number 0 part = rw (take-append-drop f front, l) at (number_parts (take f front) part (bits_drop f front (bits_take (f + m) bs s))).1 in
    ap (λ (x : ℕ). x % 2 ^ m) above ∙ below ∙ ap (number 0) (drop_take f m bs)

-- of two bytes
number_across : (a b s : ℕ) → a < 256 → b < 256 → s < 8 → (a * 256 + b) / 2 ^ (8 - s) % 256 ≡ number 0 (take 8 (drop s (bits (a ∷ b ∷ []))))
number_across a b s ha hb hs =
    let bs = bits (a ∷ b ∷ []) in
    let l : length bs ≡ 16 = length_bits (a ∷ b ∷ []) in
    let e : length bs - (s + 8) ≡ 8 - s = omega arith in
    ap (λ (x : ℕ). x / 2 ^ (8 - s) % 256) (sym (number_pair a b ha hb))
    ∙ ap (λ (i : ℕ). number 0 bs / 2 ^ i % 256) (sym e)
    ∙ number_part bs s 8 (bits_small (a ∷ b ∷ [])) (omega arith)

-- A BYTE OF THE REGISTER MOVED

padded_at : (l : List ℕ) (c i : ℕ) → get_or (l ++ zeros c) i 0 ≡ get_or l i 0
padded_at [] zero i = refl
padded_at [] (suc c) zero = refl
padded_at [] (suc c) (suc i) = padded_at [] c i
padded_at (x ∷ l) c zero = refl
padded_at (x ∷ l) c (suc i) = padded_at l c i

eight_of : (s : ℕ) (xs ys : List ℕ) → s + 8 ≤ length xs → take 8 (drop s (xs ++ ys)) ≡ take 8 (drop s xs)
eight_of s xs ys h = ap (take 8) (drop-append-le s xs ys (omega arith)) ∙ take-append-le 8 (drop s xs) ys (omega (arith, length-drop s xs))

-- eight bits from one within a byte on are of that byte and the next
across : (s j : ℕ) (r : List ℕ) → s < 8 → suc j < length r → take 8 (drop (8 * j + s) (bits r)) ≡ take 8 (drop s (bits (get_or r j 0 ∷ get_or r (suc j) 0 ∷ [])))
across s j r h l =
    let two = get_or r j 0 ∷ get_or r (suc j) 0 ∷ [] in
    let rest = drop (suc (suc j)) r in
    let e : drop j r ≡ two ++ rest = drop-cons r j 0 (omega arith) ∙ ap (λ (t : List ℕ). get_or r j 0 ∷ t) (drop-cons r (suc j) 0 l) in
    ap (take 8) (sym (drop-drop s (8 * j) (bits r)) ∙ ap (drop s) (drop_bytes j r ∙ ap bits e ∙ bits_append two rest))
    ∙ eight_of s (bits two) (bits rest) (omega (arith, length_bits two))

-- a byte has its bits from the one m / 8 bytes below it and the next
pub byte_up : (k m j : ℕ) (r : List ℕ) {upper lower : ℕ} → length r ≡ k → j < k → upper < 256 → lower < 256
    → upper ≡ get_or r (j + m / 8) 0 → lower ≡ get_or r (suc (j + m / 8)) 0
    → (upper * 256 + lower) / 2 ^ (8 - m % 8) % 256 ≡ get_or (bits_up k m r) j 0
unfolding moved_up
byte_up k m j r {upper} {lower} l h hu hl u v =
    let c = suc (m / 8) in
    let at = j + m / 8 in
    let s = m % 8 in
    let bs = bits r ++ zeros m in
    let n : length bs ≡ 8 * k + m = omega (arith, length_padded (bits r) m, length_bits r) in
    let e : m + (8 - s) ≡ 8 * c = omega arith in
    let f : m + 8 * j ≡ 8 * at + s = omega arith in
    let padded : bits (r ++ zeros c) ≡ bs ++ zeros (8 - s) = more_bytes r c ∙ ap (λ (i : ℕ). bits r ++ zeros i) (sym e) ∙ sym (more_zeros (bits r) m (8 - s)) in
    number_across upper lower s hu hl (omega arith)
    ∙ sym
    (register_at k j (drop m bs) h
    ∙ ap (number 0)
    (ap (take 8) (drop-drop (8 * j) m bs)
    ∙ sym (eight_of (m + 8 * j) bs (zeros (8 - s)) (omega arith))
    ∙ ap (λ (xs : List ℕ). take 8 (drop (m + 8 * j) xs)) (sym padded)
    ∙ ap (λ (i : ℕ). take 8 (drop i (bits (r ++ zeros c)))) f
    ∙ across s at (r ++ zeros c) (omega arith) (omega (arith, length_padded r c))
    ∙ rw (padded_at r c at, padded_at r c (suc at), u, v)))
