-- A register from bytes held lowest first, and back. Assumes nothing.
use mathlib.Core.Path.{◌≡◌, refl, sym, ap, ◌∙◌}
use mathlib.Core.List.{List, [], ◌∷◌, ◌++◌, append_assoc, reverse, reverse-append}
use Prim.Native.Nat.{ℕ, zero, suc, ◌+◌, ◌-◌, ◌≤◌, ◌<◌, min}
use native.Mathlib.Nat.{le_refl}
use native.Mathlib.Decide.{dec_le}
use native.Mathlib.Omega.{arith}
use lib.ListN.{length, get_or, take, set, length-reverse, length-take}
use lib.Seq.{take-suc, take-suc-set, take-length, take_all}
use Rattle.packet.specs.Packet.{from_held, packet_bytes, low_bytes}

load_byte : (q held : List ℕ) (i m : ℕ) → i < length q → take (suc i) (set q i (get_or held m 0)) ++ from_held m held ≡ take i q ++ from_held (suc m) held
unfolding from_held
load_byte q held i m h = rw (take-suc-set q i (get_or held m 0) h, append_assoc)

-- a turn of the loop that fills a register of w bytes from its highest
pub load_turn : (w : ℕ) (q held : List ℕ) (i : ℕ) → i < w → length q ≡ w → take (i + 1) (set q i (get_or held (w - 1 - i) 0)) ++ from_held (w - (i + 1)) held ≡ take i q ++ from_held (w - i) held
load_turn w q held i h l =
    let m = w - (i + 1) in
    let e : suc m ≡ w - i = omega arith in
    let f : w - 1 - i ≡ m = omega arith in
    let g : i + 1 ≡ suc i = omega arith in
    ap (λ (j : ℕ). take (i + 1) (set q i (get_or held j 0)) ++ from_held m held) f
    ∙ ap (λ (j : ℕ). take j (set q i (get_or held m 0)) ++ from_held m held) g
    ∙ load_byte q held i m (omega arith)
    ∙ ap (λ (j : ℕ). take i q ++ from_held j held) e

held_taken : (l : List ℕ) (k : ℕ) → k ≤ length l → from_held k l ≡ reverse (take k l)
unfolding from_held
held_taken l zero h = refl
held_taken l (suc k) h =
    ap (λ (r : List ℕ). get_or l k 0 ∷ r) (held_taken l k (omega arith))
    ∙ sym (ap reverse (take-suc l k 0 h) ∙ reverse-append (take k l) (get_or l k 0 ∷ []))

-- a register's own bytes, loaded, are its bytes lowest first
pub held_reverse : (k : ℕ) (l : List ℕ) → length l ≡ k → from_held k l ≡ reverse l
held_reverse k l e = rw (← e) (held_taken l (length l) (le_refl (length l)) ∙ ap reverse (take-length l))

-- the first of those bytes are the low bytes that are sent
pub low_bytes_lem : (k n m : ℕ) (r low : List ℕ) → length r ≡ k → low ≡ from_held k r → m ≡ min (packet_bytes n) k → take m low ≡ low_bytes n r
low_bytes_lem k n m r low l e h =
    let q : length (reverse r) ≡ k = length-reverse r ∙ l in
    ap (take m) (e ∙ held_reverse k r l) ∙ ap (λ (j : ℕ). take j (reverse r)) h ∙ go (dec_le (packet_bytes n) k)
  where
    go : Dec (packet_bytes n ≤ k) → take (min (packet_bytes n) k) (reverse r) ≡ take (packet_bytes n) (reverse r)
    go (yes d) = let s : min (packet_bytes n) k ≡ packet_bytes n = omega arith in rw s
    go (no d) = let s : min (packet_bytes n) k ≡ k = omega arith in rw s (take_all k (reverse r) (omega (arith, length-reverse r)) ∙ sym (take_all (packet_bytes n) (reverse r) (omega (arith, length-reverse r))))

-- how many they are
pub length_low : (k n : ℕ) (r : List ℕ) → length r ≡ k → min (packet_bytes n) k ≡ length (low_bytes n r)
length_low k n r e = sym (length-take (packet_bytes n) (reverse r) ∙ ap (min (packet_bytes n)) (length-reverse r ∙ e))
