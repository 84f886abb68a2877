-- Laws of rows of actions, one row for each element of a list, of the loops that write them, and of actions written one
-- after another. Assumes nothing.
use mathlib.Core.Path.{◌≡◌, refl, sym, ap, subst, ◌∙◌}
use mathlib.Core.List.{List, [], ◌∷◌, ◌++◌}
use Prim.Native.Nat.{ℕ, suc, ◌+◌, ◌-◌, ◌*◌, ◌≤◌, ◌<◌}
use native.Mathlib.Nat.{add-zero}
use native.Mathlib.Numerals.{add-one}
use native.Mathlib.Omega.{arith}
use lib.ListN.{length, get_or, take, drop, drop_of_length-le, length-append}
use lib.Seq.{drop-cons}
use Rattle.wire.specs.Action.{Action, bytes_of}
use Rattle.wire.specs.Buffer.{overwrite, Written}
use Rattle.wire.proofs.Actions.{bytes_append}
use Rattle.wire.proofs.Buffers.{overwrite_none, overwrite_length, overwrite_append, written_append, placed, room}
use Rattle.lines.specs.Lines.{for_each}

-- rows of k actions each
pub each_length : (f : ℕ → List Action) (k : ℕ) → ((x : ℕ) → length (f x) ≡ k) → (xs : List ℕ) → length (for_each f xs) ≡ length xs * k
unfolding for_each
each_length f k h [] = omega arith
each_length f k h (x ∷ xs) = omega (arith, length-append (f x) (for_each f xs), h x, each_length f k h xs)

-- the bytes of the rows of a list's elements from place i on
abbrev pub rows : (ℕ → List Action) → List ℕ → ℕ → List ℕ
rows f xs i = bytes_of (for_each f (drop i xs))

-- the first of those rows, and the rest
rows_turn : (f : ℕ → List Action) (xs : List ℕ) (i x : ℕ) → i < length xs → get_or xs i 0 ≡ x → rows f xs i ≡ bytes_of (f x) ++ rows f xs (i + 1)
unfolding for_each
rows_turn f xs i x h q = rw (add-one, drop-cons xs i 0 h, q) (bytes_append (f x) (for_each f (drop (suc i) xs)))

-- a loop that has written i rows: what writing the rest from here leaves is what writing all of them from the start leaves
pub record Owed (f : ℕ → List Action) (xs entry : List ℕ) (start i : ℕ) (now : List ℕ) (at : ℕ) : Type 0 where
  pub size : length now ≡ length entry
  pub place : at + length (rows f xs i) ≡ start + length (rows f xs 0)
  pub bytes : overwrite now at (rows f xs i) ≡ overwrite entry start (rows f xs 0)

pub owed_all : (f : ℕ → List Action) (xs out : List ℕ) (at : ℕ) → Owed f xs out at 0 out at
owed_all f xs out at = record { size = refl; place = refl; bytes = refl }

pub owed_at : {f : ℕ → List Action} {xs l m : List ℕ} {start at i k : ℕ} → i ≡ k → Owed f xs l start i m at → Owed f xs l start k m at
owed_at {f} {xs} {l} {m} {start} {at} e o = subst (λ (j : ℕ). Owed f xs l start j m at) e o

-- where all rows fit, the place is not past the end
pub owed_within : {f : ℕ → List Action} {xs l m : List ℕ} {start at i : ℕ} → Owed f xs l start i m at → start + length (bytes_of (for_each f xs)) ≤ length l → at ≤ length m
owed_within o fit = omega (arith, o.size, o.place, fit)

-- .. and the next one fits in the part from there on
pub owed_fits : (f : ℕ → List Action) (xs : List ℕ) {l m : List ℕ} {start at i x : ℕ} → Owed f xs l start i m at → i < length xs → get_or xs i 0 ≡ x
    → start + length (bytes_of (for_each f xs)) ≤ length l → length (bytes_of (f x)) ≤ length (take (length m - at) (drop at m))
owed_fits f xs {m = m} {at = at} {i = i} {x = x} o h q fit =
    let e : length (rows f xs i) ≡ length (bytes_of (f x)) + length (rows f xs (i + 1)) = ap length (rows_turn f xs i x h q) ∙ length-append (bytes_of (f x)) (rows f xs (i + 1)) in
    room m at (length (bytes_of (f x))) (omega (arith, o.size, o.place, e, fit))

-- a turn of the loop, whose writer was lent that part
pub owed_turn : (f : ℕ → List Action) (xs : List ℕ) {l m n : List ℕ} {start at k i x : ℕ} → Owed f xs l start i m at → i < length xs → get_or xs i 0 ≡ x
    → Written (take (length m - at) (drop at m)) 0 (bytes_of (f x)) n k → Owed f xs l start (i + 1) (take at m ++ (n ++ drop (length m - at) (drop at m))) (at + k)
owed_turn f xs {m = m} {at = at} {i = i} {x = x} o h q v =
    let w = placed {m = m} {at = at} v in
    let b = bytes_of (f x) in
    let r = rows f xs (i + 1) in
    let s : rows f xs i ≡ b ++ r = rows_turn f xs i x h q in
    let e : length (rows f xs i) ≡ length b + length r = ap length s ∙ length-append b r in
    record {
      size = ap length w.bytes ∙ overwrite_length m at b ∙ o.size;
      place = omega (arith, w.after, o.place, e);
      bytes = (λ j. overwrite (w.bytes j) (w.after j) r) ∙ overwrite_append m at b r ∙ ap (overwrite m at) (sym s) ∙ o.bytes;
    }

-- with no row left the loop has written them all
pub owed_none : (f : ℕ → List Action) (xs : List ℕ) {l m : List ℕ} {start at i : ℕ} → Owed f xs l start i m at → length xs ≤ i
    → Written l start (bytes_of (for_each f xs)) m at
unfolding for_each
owed_none f xs {m = m} {at = at} {i = i} o h =
    let d : drop i xs ≡ [] = drop_of_length-le xs {i = i} h in
    let e : rows f xs i ≡ [] = ap (λ (r : List ℕ). bytes_of (for_each f r)) d in
    record {
      bytes = sym (overwrite_none m at) ∙ ap (overwrite m at) (sym e) ∙ o.bytes;
      after = sym (add-zero at) ∙ ap (λ (r : List ℕ). at + length r) (sym e) ∙ o.place;
    }

-- ONE AFTER ANOTHER, the second in the part from the place after the first on

pub then : {l m n xs ys : List ℕ} {mid k : ℕ} → Written l 0 xs m mid → Written (take (length m - mid) (drop mid m)) 0 ys n k
    → Written l 0 (xs ++ ys) (take mid m ++ (n ++ drop (length m - mid) (drop mid m))) (mid + k)
then {l} {m} {n} {xs} {ys} {mid} v w = written_append l 0 xs ys v (placed {m = m} {at = mid} w)

pub joined : (as' bs : List Action) {l m n : List ℕ} {mid k : ℕ} → Written l 0 (bytes_of as') m mid → Written (take (length m - mid) (drop mid m)) 0 (bytes_of bs) n k
    → Written l 0 (bytes_of (as' ++ bs)) (take mid m ++ (n ++ drop (length m - mid) (drop mid m))) (mid + k)
joined as' bs v w = rw (bytes_append as' bs) (then v w)

joined_length : (as' bs : List Action) → length (bytes_of (as' ++ bs)) ≡ length (bytes_of as') + length (bytes_of bs)
joined_length as' bs = ap length (bytes_append as' bs) ∙ length-append (bytes_of as') (bytes_of bs)

-- where both fit, the first does, and after it the second, in the part from there on too
pub first_fits : (as' bs : List Action) {k : ℕ} → length (bytes_of (as' ++ bs)) ≤ k → 0 + length (bytes_of as') ≤ k
first_fits as' bs h = omega (arith, joined_length as' bs, h)

pub second_within : (as' bs : List Action) {l m : List ℕ} {mid : ℕ} → length (bytes_of (as' ++ bs)) ≤ length l → Written l 0 (bytes_of as') m mid → mid + length (bytes_of bs) ≤ length m
second_within as' bs {l = l} h w = omega (arith, joined_length as' bs, h, w.after, ap length w.bytes ∙ overwrite_length l 0 (bytes_of as'))

pub second_fits : (as' bs : List Action) {l m : List ℕ} {mid : ℕ} → length (bytes_of (as' ++ bs)) ≤ length l → Written l 0 (bytes_of as') m mid
    → length (bytes_of bs) ≤ length (take (length m - mid) (drop mid m))
second_fits as' bs {m = m} {mid = mid} h w = room m mid (length (bytes_of bs)) (second_within as' bs h w)

-- THE SAME BYTES UNDER ANOTHER NAME

pub same_written : {l m xs ys : List ℕ} {at next : ℕ} → xs ≡ ys → Written l at ys m next → Written l at xs m next
same_written {l} {m} {at = at} {next = next} e w = subst (λ (zs : List ℕ). Written l at zs m next) (sym e) w

pub same_room : {xs ys : List ℕ} {k : ℕ} → xs ≡ ys → length xs ≤ k → length ys ≤ k
same_room {k = k} e h = subst (λ (zs : List ℕ). length zs ≤ k) e h
