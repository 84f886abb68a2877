-- Laws of what a buffer holds after bytes are written to it, for any buffer and any bytes. Assumes nothing.
use mathlib.Core.Path.{◌≡◌, refl, sym, ap, ◌∙◌}
use mathlib.Core.Bool.{true, false}
use mathlib.Core.List.{List, [], ◌∷◌, ◌++◌, append-nil, append_assoc}
use Prim.Native.Nat.{ℕ, zero, suc, ◌+◌, ◌-◌, ◌≤◌, ◌<◌}
use native.Mathlib.Nat.{add_assoc, add-zero, zero-add, add-suc, suc-add, le_of_eq}
use native.Mathlib.Omega.{arith}
use borrow.Author.Tests.{lt-leb, leb-true}
use lib.ListN.{length, take, drop, set, length-append, length-take, length-drop, drop_of_length-le}
use lib.Seq.{length-sets, sets-eq, take_all, take-set-le, drop-set-lt, length-take-le, take-append_seam, drop-append_seam}
use Rattle.wire.specs.Buffer.{overwrite, fits_in, Written, Overwritten}

pub overwrite_length : (l : List ℕ) (at : ℕ) (xs : List ℕ) → length (overwrite l at xs) ≡ length l
unfolding overwrite
overwrite_length l at xs = length-sets l at xs

pub overwrite_right : (l : List ℕ) (at : ℕ) (xs : List ℕ) → Overwritten l at xs
unfolding overwrite
overwrite_right l at xs = record { size = overwrite_length l at xs; parts = sets-eq xs l at }

-- a row written over another of its length
pub written_whole : (l xs : List ℕ) {r : List ℕ} {next : ℕ} → length l ≡ length xs → Written l 0 xs r next → r ≡ xs
written_whole l xs e w =
    w.bytes ∙ (overwrite_right l 0 xs).parts (omega arith) ∙ ap (λ (r : List ℕ). xs ++ r) (drop_of_length-le l {i = 0 + length xs} (omega arith)) ∙ append-nil xs

-- a mark past the end leaves room for nothing, not even for zero bytes
pub past_the_end : (size mark need : ℕ) → size < mark → fits_in size mark need ≡ false
past_the_end size mark need h = lt-leb (mark + need) size (omega arith)

-- nothing written changes nothing
pub overwrite_none : (l : List ℕ) (at : ℕ) → overwrite l at [] ≡ l
unfolding overwrite
overwrite_none l at = refl

-- bytes before and beyond stay, whether or not xs fit
pub overwrite_before : (l : List ℕ) (at n : ℕ) (xs : List ℕ) → n ≤ at → take n (overwrite l at xs) ≡ take n l
unfolding overwrite
overwrite_before l at n [] h = refl
overwrite_before l at n (x ∷ xs) h = overwrite_before (set l at x) (suc at) n xs (omega arith) ∙ take-set-le n l at x h

pub overwrite_beyond : (l : List ℕ) (at n : ℕ) (xs : List ℕ) → at + length xs ≤ n → drop n (overwrite l at xs) ≡ drop n l
unfolding overwrite
overwrite_beyond l at n [] h = refl
overwrite_beyond l at n (x ∷ xs) h = overwrite_beyond (set l at x) (suc at) n xs (omega arith) ∙ drop-set-lt n l at x (omega arith)

-- WRITING TWICE IN A ROW is writing the joined bytes
pub overwrite_append : (l : List ℕ) (at : ℕ) (xs ys : List ℕ) → overwrite (overwrite l at xs) (at + length xs) ys ≡ overwrite l at (xs ++ ys)
unfolding overwrite
overwrite_append l at [] ys = rw add-zero
overwrite_append l at (x ∷ xs) ys = rw (add-suc, ← suc-add) (overwrite_append (set l at x) (suc at) xs ys)

pub written_none : (l : List ℕ) (at : ℕ) → Written l at [] l at
written_none l at = record { bytes = sym (overwrite_none l at); after = sym (add-zero at) }

pub written_append : (l : List ℕ) (at : ℕ) (xs ys : List ℕ) {m n : List ℕ} {at' at'' : ℕ} → Written l at xs m at' → Written m at' ys n at'' → Written l at (xs ++ ys) n at''
written_append l at xs ys {m} v w = record {
  bytes = w.bytes ∙ ap (λ (k : ℕ). overwrite m k ys) v.after ∙ ap (λ (r : List ℕ). overwrite r (at + length xs) ys) v.bytes ∙ overwrite_append l at xs ys;
  after = w.after ∙ ap (λ (k : ℕ). k + length ys) v.after ∙ add_assoc at (length xs) (length ys) ∙ ap (λ (k : ℕ). at + k) (sym (length-append xs ys));
}

-- the bytes up to the end of what is written
pub overwrite_through : (l : List ℕ) (at : ℕ) (xs : List ℕ) → at + length xs ≤ length l → take (at + length xs) (overwrite l at xs) ≡ take at l ++ xs
overwrite_through l at xs h =
    let n : at + length xs ≡ length (take at l ++ xs) = omega (arith, length-append (take at l) xs, length-take-le at l (omega arith)) in
    (λ i. take (n i) ((overwrite_right l at xs).parts h i)) ∙ take-append_seam (take at l ++ xs) (drop (at + length xs) l)

-- what is written last in front of other bytes joins them
pub overwrite_front : (l : List ℕ) (at : ℕ) (xs ys : List ℕ) → at + length xs + length ys ≤ length l → overwrite (overwrite l (at + length xs) ys) at xs ≡ overwrite l at (xs ++ ys)
overwrite_front l at xs ys h =
    let p = at + length xs in
    let m = overwrite l p ys in
    let b = drop (p + length ys) l in
    let e : m ≡ take p l ++ (ys ++ b) = (overwrite_right l p ys).parts h ∙ append_assoc (take p l) ys b in
    let f : length (take p l) ≡ p = length-take-le p l (omega arith) in
    let d : drop p m ≡ ys ++ b = ap (drop p) e ∙ ap (λ (n : ℕ). drop n (take p l ++ (ys ++ b))) (sym f) ∙ drop-append_seam (take p l) (ys ++ b) in
    let n : p + length ys ≡ at + length (xs ++ ys) = omega (arith, length-append xs ys) in
    (overwrite_right m at xs).parts (omega (arith, overwrite_length l p ys))
    ∙ (λ i. overwrite_before l p at ys (omega arith) i ++ xs ++ d i)
    ∙ sym (append_assoc (take at l ++ xs) ys b)
    ∙ (λ i. append_assoc (take at l) xs ys i ++ drop (n i) l)
    ∙ sym ((overwrite_right l at (xs ++ ys)).parts (omega (arith, n)))

-- LENDING A PART from a place onward is writing at that place
overwrite_cons : (x : ℕ) (l : List ℕ) (at : ℕ) (xs : List ℕ) → overwrite (x ∷ l) (suc at) xs ≡ x ∷ overwrite l at xs
unfolding overwrite
overwrite_cons x l at [] = refl
overwrite_cons x l at (y ∷ xs) = overwrite_cons x (set l at y) (suc at) xs

overwrite_nil : (at : ℕ) (xs : List ℕ) → overwrite [] at xs ≡ []
unfolding overwrite
overwrite_nil at [] = refl
overwrite_nil at (x ∷ xs) = overwrite_nil (suc at) xs

pub overwrite_part : (l : List ℕ) (mark at : ℕ) (xs : List ℕ) → take mark l ++ overwrite (drop mark l) at xs ≡ overwrite l (mark + at) xs
overwrite_part l zero at xs = ap (λ (k : ℕ). overwrite l k xs) (sym (zero-add at))
overwrite_part [] (suc mark) at xs = rw (overwrite_nil, overwrite_nil)
overwrite_part (x ∷ l) (suc mark) at xs = rw (suc-add, overwrite_cons) (ap (λ (r : List ℕ). x ∷ r) (overwrite_part l mark at xs))

-- `&mut l[mark..]` comes back with xs written at a place of it
pub lent : (l : List ℕ) (mark at : ℕ) (ys xs : List ℕ) → ys ≡ overwrite (take (length l - mark) (drop mark l)) at xs
    → take mark l ++ (ys ++ drop (length l - mark) (drop mark l)) ≡ overwrite l (mark + at) xs
lent l mark at ys xs e =
    ap (λ (r : List ℕ). take mark l ++ (ys ++ r)) (drop_of_length-le (drop mark l) (le_of_eq (length-drop mark l)))
    ∙ ap (λ (r : List ℕ). take mark l ++ r) (append-nil ys ∙ e ∙ ap (λ (r : List ℕ). overwrite r at xs) (take_all (length l - mark) (drop mark l) (le_of_eq (length-drop mark l))))
    ∙ overwrite_part l mark at xs

-- .. or at its start
pub written_after : (l : List ℕ) (mark : ℕ) {ys xs zs : List ℕ} {next : ℕ} → Written (take (length l - mark) (drop mark l)) 0 xs ys next → xs ≡ zs
    → take mark l ++ (ys ++ drop (length l - mark) (drop mark l)) ≡ overwrite l mark zs
written_after l mark {ys} {xs} w e = lent l mark 0 ys xs w.bytes ∙ (λ i. overwrite l (add-zero mark i) (e i))

-- a writer that was lent the part from a place onward has written at that place
pub placed : {m n ys : List ℕ} {at k : ℕ} → Written (take (length m - at) (drop at m)) 0 ys n k
    → Written m at ys (take at m ++ (n ++ drop (length m - at) (drop at m))) (at + k)
placed {m} {n} {ys} {at} w = record {
  bytes = written_after m at w refl;
  after = ap (λ (j : ℕ). at + j) (w.after ∙ zero-add (length ys));
}

-- what fits at a place fits in the part from there on
pub room : (m : List ℕ) (at need : ℕ) → at + need ≤ length m → need ≤ length (take (length m - at) (drop at m))
room m at need h = simp (length-take, length-drop) (omega arith)

-- what fits after a mark fits in the part from there on
pub part_start : (size mark need : ℕ) → fits_in size mark need ≡ true → mark ≤ size
part_start size mark need h = omega (arith, leb-true (mark + need) size h)

pub part_room : (mark need : ℕ) (l : List ℕ) → fits_in (length l) mark need ≡ true → need ≤ length (take (length l - mark) (drop mark l))
part_room mark need l h = simp (length-take, length-drop) (omega (arith, leb-true (mark + need) (length l) h))
