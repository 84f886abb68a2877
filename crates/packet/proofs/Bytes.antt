-- A register and its bits determine each other, at any width. Assumes nothing.
use mathlib.Core.Path.{◌≡◌, refl, sym, ap, ◌∙◌}
use mathlib.Core.List.{List, [], ◌∷◌, ◌++◌, append_assoc}
use Prim.Native.Nat.{ℕ, zero, suc, ◌+◌, ◌-◌, ◌*◌, ◌/◌, ◌%◌, ◌^◌, ◌≤◌, ◌<◌}
use native.Mathlib.Nat.{zero-add, add-mul, mul_assoc, pow-succ', mod-one, mod-eq_of_lt}
use native.Mathlib.Decide.{dec_le}
use native.Mathlib.Omega.{arith}
use mir.Val.{Val}
use mir.Syntax.{w8}
use denote.Shadow.{shadow}
use denote.Laws.{Is}
use denote.Plain.{UInt}
use denote.Array.{Array, each}
use lib.ListN.{length, get_or, take, drop, length-drop, take-append-drop, drop_of_length-le}
use lib.Pow.{mod-pow-add, high, low}
use lib.Seq.{length-take-le, drop-cons}
use Rattle.packet.specs.Register.{byte_bits, bits, number, register, zeros}

-- every element is 0 or 1
abbrev pub Bits : List ℕ → Type 0
Bits [] = Unit {0}
Bits (b ∷ bs) = (b < 2) × Bits bs

pub bits_join : (xs ys : List ℕ) → Bits xs → Bits ys → Bits (xs ++ ys)
bits_join [] ys h k = k
bits_join (x ∷ xs) ys h k = (h.0, bits_join xs ys h.1 k)

pub bits_drop : (n : ℕ) (xs : List ℕ) → Bits xs → Bits (drop n xs)
bits_drop zero xs h = h
bits_drop (suc n) [] h = tt
bits_drop (suc n) (x ∷ xs) h = bits_drop n xs h.1

pub bits_take : (n : ℕ) (xs : List ℕ) → Bits xs → Bits (take n xs)
bits_take zero xs h = tt
bits_take (suc n) [] h = tt
bits_take (suc n) (x ∷ xs) h = (h.0, bits_take n xs h.1)

pub bits_zeros : (n : ℕ) → Bits (zeros n)
bits_zeros zero = tt
bits_zeros (suc n) = (omega arith, bits_zeros n)

pub bits_small : (r : List ℕ) → Bits (bits r)
unfolding bits byte_bits
bits_small [] = tt
bits_small (b ∷ r) =
    bits_join (byte_bits b) (bits r)
    (omega arith, (omega arith, (omega arith, (omega arith, (omega arith, (omega arith, (omega arith, (omega arith, tt))))))))
    (bits_small r)

pub bits_append : (l m : List ℕ) → bits (l ++ m) ≡ bits l ++ bits m
unfolding bits
bits_append [] m = refl
bits_append (b ∷ l) m = rw (bits_append l m, append_assoc)

pub length_byte : (b : ℕ) → length (byte_bits b) ≡ 8
unfolding byte_bits
length_byte b = refl

pub length_bits : (l : List ℕ) → length (bits l) ≡ 8 * length l
unfolding bits byte_bits
length_bits [] = refl
length_bits (b ∷ l) = omega (arith, length_bits l)

-- FROM A BYTE TO ITS BITS AND BACK

pub byte_at : (b j : ℕ) → j < 8 → get_or (byte_bits b) j 0 ≡ b / 2 ^ (7 - j) % 2
unfolding byte_bits
byte_at b zero h = refl
byte_at b (suc zero) h = refl
byte_at b (suc (suc zero)) h = refl
byte_at b (suc (suc (suc zero))) h = refl
byte_at b (suc (suc (suc (suc zero)))) h = refl
byte_at b (suc (suc (suc (suc (suc zero))))) h = refl
byte_at b (suc (suc (suc (suc (suc (suc zero)))))) h = refl
byte_at b (suc (suc (suc (suc (suc (suc (suc zero))))))) h = omega arith
byte_at b (suc (suc (suc (suc (suc (suc (suc (suc j)))))))) h = absurd (omega arith)

-- a number's bits add to what stands before them, moved up past them
number_weight : (v : ℕ) (bs : List ℕ) → number v bs ≡ v * 2 ^ length bs + number 0 bs
unfolding number
number_weight v [] = omega arith
number_weight v (b ∷ bs) =
    let w = 2 ^ length bs in
    let first : (v * 2 + b) * w ≡ v * (2 * w) + b * w = add-mul (v * 2) b w ∙ ap (λ (x : ℕ). x + b * w) (mul_assoc v 2 w) in
    let second : (0 * 2 + b) * w ≡ b * w = ap (λ (x : ℕ). x * w) (zero-add b) in
    let weight : v * 2 ^ suc (length bs) ≡ v * (2 * w) = ap (λ (x : ℕ). v * x) (pow-succ' 2 (length bs)) in
    omega (arith, number_weight (v * 2 + b) bs, number_weight (0 * 2 + b) bs)

number_append : (v : ℕ) (xs ys : List ℕ) → number v (xs ++ ys) ≡ number (number v xs) ys
unfolding number
number_append v [] ys = refl
number_append v (x ∷ xs) ys = number_append (v * 2 + x) xs ys

number_below : (bs : List ℕ) → Bits bs → number 0 bs < 2 ^ length bs
unfolding number
number_below [] s = omega arith
number_below (zero ∷ bs) s = omega (arith, pow-succ' 2 (length bs), number_below bs s.1)
number_below (suc zero ∷ bs) s = omega (arith, pow-succ' 2 (length bs), number_weight 1 bs, number_below bs s.1)
number_below (suc (suc b) ∷ bs) s = absurd (omega (arith, s.0))

-- the bits above a place, and those below it
pub number_parts : (xs ys : List ℕ) → Bits ys → (number 0 (xs ++ ys) / 2 ^ length ys ≡ number 0 xs) × (number 0 (xs ++ ys) % 2 ^ length ys ≡ number 0 ys)
number_parts xs ys s =
    let e : number 0 (xs ++ ys) ≡ number 0 xs * 2 ^ length ys + number 0 ys = number_append 0 xs ys ∙ number_weight (number 0 xs) ys in
    rw e (high (number 0 xs) (length ys) (number_below ys s), low (number 0 xs) (length ys) (number_below ys s))

low_number : (b m : ℕ) → m ≤ 8 → number 0 (drop (8 - m) (byte_bits b)) ≡ b % 2 ^ m
unfolding byte_bits number
low_number b zero h = sym (mod-one b)
low_number b (suc m) h =
    let j = 7 - m in
    let ys = drop (8 - m) (byte_bits b) in
    let first : 8 - suc m ≡ j = omega arith in
    let next : suc j ≡ 8 - m = omega arith in
    let place : 7 - j ≡ m = omega arith in
    let one : 1 + m ≡ suc m = omega arith in
    let many : length ys ≡ m = omega (arith, length-drop (8 - m) (byte_bits b), length_byte b) in
    let cut : drop (8 - suc m) (byte_bits b) ≡ b / 2 ^ m % 2 ∷ ys =
    rw first (drop-cons (byte_bits b) j 0 (omega (arith, length_byte b)) ∙ rw (byte_at b j (omega arith), place, next)) in
    ap (number 0) cut
    ∙ number_weight (0 * 2 + b / 2 ^ m % 2) ys
    ∙ rw (many, zero-add, low_number b m (omega arith)) (sym (ap (λ (k : ℕ). b % 2 ^ k) (sym one) ∙ mod-pow-add b 1 m))

-- the bits of a byte that are left below its first d
pub number_low : (b d : ℕ) → number 0 (drop d (byte_bits b)) ≡ b % 2 ^ (8 - d)
unfolding number
number_low b d = go (dec_le d 8)
  where
    go : Dec (d ≤ 8) → number 0 (drop d (byte_bits b)) ≡ b % 2 ^ (8 - d)
    go (yes h) = let e : d ≡ 8 - (8 - d) = omega arith in ap (λ (k : ℕ). number 0 (drop k (byte_bits b))) e ∙ low_number b (8 - d) (omega arith)
    go (no h) =
        let e : 8 - d ≡ 0 = omega arith in
        rw (e, drop_of_length-le (byte_bits b) {i = d} (omega (arith, length_byte b))) (sym (mod-one b))

pub number_bits : (x : ℕ) → x < 256 → number 0 (byte_bits x) ≡ x
number_bits x h = number_low x 0 ∙ mod-eq_of_lt h

pub number_pair : (a b : ℕ) → a < 256 → b < 256 → number 0 (bits (a ∷ b ∷ [])) ≡ a * 256 + b
unfolding bits byte_bits
number_pair a b h k =
    number_append 0 (byte_bits a) (byte_bits b)
    ∙ number_weight (number 0 (byte_bits a)) (byte_bits b)
    ∙ ap (λ (x : ℕ). x * 256 + number 0 (byte_bits b)) (number_bits a h)
    ∙ ap (λ (x : ℕ). a * 256 + x) (number_bits b k)

-- a value of the type [u8; n] is the register of its own bits
register_each : (xs : List ℕ) (us : List Val) → shadow (each ℕ (UInt w8).own_val xs us) → register (length xs) (bits xs) ≡ xs
unfolding register bits byte_bits
register_each [] us s = refl
register_each (x ∷ xs) [] s = absurd s
register_each (x ∷ xs) (u ∷ us) s = cc (number_bits x s.0.1, register_each xs us s.1)

pub register_bits : (n : ℕ) (xs : List ℕ) (vs : List Val) → Is (Array (UInt w8) n) xs vs → register n (bits xs) ≡ xs
register_bits n xs vs p = ap (λ (k : ℕ). register k (bits xs)) (sym p.1.0.1) ∙ register_each xs p.0 p.1.1

bits_number : (bs : List ℕ) → length bs ≡ 8 → Bits bs → byte_bits (number 0 bs) ≡ bs
unfolding byte_bits number
bits_number [] l s = absurd (omega arith)
bits_number (a ∷ []) l s = absurd (omega arith)
bits_number (a ∷ b ∷ []) l s = absurd (omega arith)
bits_number (a ∷ b ∷ c ∷ []) l s = absurd (omega arith)
bits_number (a ∷ b ∷ c ∷ d ∷ []) l s = absurd (omega arith)
bits_number (a ∷ b ∷ c ∷ d ∷ e ∷ []) l s = absurd (omega arith)
bits_number (a ∷ b ∷ c ∷ d ∷ e ∷ f ∷ []) l s = absurd (omega arith)
bits_number (a ∷ b ∷ c ∷ d ∷ e ∷ f ∷ g ∷ []) l s = absurd (omega arith)
bits_number (a ∷ b ∷ c ∷ d ∷ e ∷ f ∷ g ∷ h ∷ []) l s =
    let x = (((((((0 * 2 + a) * 2 + b) * 2 + c) * 2 + d) * 2 + e) * 2 + f) * 2 + g) * 2 + h in
    let e7 : x / 128 % 2 ≡ a = omega arith in
    let e6 : x / 64 % 2 ≡ b = omega arith in
    let e5 : x / 32 % 2 ≡ c = omega arith in
    let e4 : x / 16 % 2 ≡ d = omega arith in
    let e3 : x / 8 % 2 ≡ e = omega arith in
    let e2 : x / 4 % 2 ≡ f = omega arith in
    let e1 : x / 2 % 2 ≡ g = omega arith in
    let e0 : x % 2 ≡ h = omega arith in
    cc
bits_number (a ∷ b ∷ c ∷ d ∷ e ∷ f ∷ g ∷ h ∷ i ∷ bs) l s = absurd (omega arith)

-- bits of the right number are the bits of their register
pub bits_register : (k : ℕ) (bs : List ℕ) → length bs ≡ 8 * k → Bits bs → bits (register k bs) ≡ bs
unfolding register bits
bits_register zero [] l s = refl
bits_register zero (b ∷ bs) l s = absurd (omega arith)
bits_register (suc k) bs l s =
    let t : length (take 8 bs) ≡ 8 = length-take-le 8 bs (omega arith) in
    let d : length (drop 8 bs) ≡ 8 * k = omega (arith, length-drop 8 bs) in
    rw (bits_number (take 8 bs) t (bits_take 8 bs s), bits_register k (drop 8 bs) d (bits_drop 8 bs s)) (take-append-drop 8 bs)

pub length_register : (k : ℕ) (bs : List ℕ) → length (register k bs) ≡ k
unfolding register
length_register zero bs = refl
length_register (suc k) bs = ap suc (length_register k (drop 8 bs))
