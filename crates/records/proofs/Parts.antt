-- Parts of the file, and the events in them. Assumes nothing.
use Prim.Native.Nat.{ℕ, zero, suc, ◌+◌, ◌-◌, ◌^◌, ◌≤◌, ◌<◌}
use mathlib.Core.Path.{◌≡◌, refl, sym, ap, ◌∙◌}
use mathlib.Core.Bool.{cond, ◌&&◌}
use mathlib.Core.List.{List, [], ◌∷◌, map}
use native.Mathlib.Omega.{arith}
use native.Mathlib.Numerals.{add-one}
use borrow.Author.Tests.{le-leb}
use lib.Dec.{leb}
use lib.ListN.{length, take, drop, get_or, length-take, length-drop}
use lib.Seq.{drop-cons, drop-drop, drop-nil, take-nil, take_all}
use Rattle.registers.specs.declared.Event.{Event}
use Rattle.records.specs.Records.{part}
use Rattle.records.specs.declared.contents.Received.{Received}
use Rattle.records.specs.Contents.{event_of, events_of}
use Rattle.records.specs.declared.contents.Received.TheVariants as v
use Rattle.records.proofs.Bodies.{part_of}
use Rattle.wire.proofs.Choices.{by_bool, by_cond}

drop_take : (n m : ℕ) (l : List ℕ) → drop n (take m l) ≡ take (m - n) (drop n l)
drop_take zero m l = let e : m - 0 ≡ m = omega arith in rw e
drop_take (suc n) zero l = let e : 0 - suc n ≡ 0 = omega arith in rw e
drop_take (suc n) (suc m) [] = sym (take-nil (suc m - suc n))
drop_take (suc n) (suc m) (x ∷ l) = let e : suc m - suc n ≡ m - n = omega arith in rw e (drop_take n m l)

less : (start end n : ℕ) → end - start - n ≡ end - (start + n)
less start end n = omega arith

-- the rest of a part
pub part_rest : (s : List ℕ) (start end n : ℕ) → drop n (part s start end) ≡ part s (start + n) end
part_rest s start end n = drop_take n (end - start) (drop start s) ∙ ap (λ (l : List ℕ). take (end - start - n) l) (drop-drop n start s) ∙ ap (λ (k : ℕ). take k (drop (start + n) s)) (less start end n)

pub part_length : (s : List ℕ) (start end : ℕ) → start ≤ end → end ≤ length s → length (part s start end) ≡ end - start
part_length s start end h k = simp (length-take, length-drop) (omega arith)

pub part_none : (s : List ℕ) (start end : ℕ) → end ≤ start → part s start end ≡ []
part_none s start end h = let e : end - start ≡ 0 = omega arith in rw e

pub part_first : (s : List ℕ) (start end : ℕ) → start < end → end ≤ length s → part s start end ≡ get_or (part s start end) 0 0 ∷ part s (start + 1) end
part_first s start end h k =
    drop-cons (part s start end) 0 0 (omega (arith, part_length s start end (omega arith) k)) ∙ ap (λ (l : List ℕ). get_or (part s start end) 0 0 ∷ l) (part_rest s start end 1)

-- what is lent from a mark on
pub tail_as : (l : List ℕ) (n : ℕ) → take (length l - n) (drop n l) ≡ drop n l
tail_as l n = take_all (length l - n) (drop n l) (omega (arith, length-drop n l))

-- EVENTS

drop_map : (g : ℕ → Event) (n : ℕ) (l : List ℕ) → drop n (map g l) ≡ map g (drop n l)
drop_map g zero l = refl
drop_map g (suc n) [] = refl
drop_map g (suc n) (x ∷ l) = drop_map g n l

pub events_rest : (received : Received) (l : List ℕ) (n : ℕ) → drop n (events_of received l) ≡ events_of received (drop n l)
events_rest received l n = drop_map (event_of received) n l

pub events_cons : (received : Received) (l : List ℕ) (i : ℕ) → i < length l → drop i (events_of received l) ≡ event_of received (get_or l i 0) ∷ drop (i + 1) (events_of received l)
events_cons received l i h =
    events_rest received l i ∙ ap (events_of received) (drop-cons l i 0 h) ∙ ap (λ (es : List Event). event_of received (get_or l i 0) ∷ es) (sym (events_rest received l (suc i)) ∙ ap (λ (k : ℕ). drop k (events_of received l)) (sym (add-one i)))

pub events_length : (received : Received) (l : List ℕ) → length (events_of received l) ≡ length l
events_length received [] = refl
events_length received (x ∷ l) = ap suc (events_length received l)

-- none are left of a fault's body after its event
pub no_fault : (received : Received) (l : List ℕ) → (received ≡ v.Fault → l ≡ []) → events_of received l ≡ events_of v.Bytes l
no_fault v.Fault l h = rw (h refl)
no_fault v.Bytes l h = refl

-- SAMPLES: what is lent after some are used
pub lent_rest : (s : List ℕ) (a z u : ℕ) → u ≤ length (cond (leb a z && leb z (length s)) (part s a z) [])
    → cond (leb (a + u) z && leb z (length s)) (part s (a + u) z) [] ≡ drop u (cond (leb a z && leb z (length s)) (part s a z) [])
lent_rest s a z u h =
    by_bool (leb a z && leb z (length s))
    (λ t.
    let q = part_of a z (length s) t in
    let h' : u ≤ length (part s a z) = rw t at h in
    rw (t, le-leb (a + u) z (omega (arith, part_length s a z q.0 q.1, q.0)), le-leb z (length s) q.1) (sym (part_rest s a z u)))
    (λ t.
    let h' : u ≤ 0 = rw t at h in
    let e : a + u ≡ a = omega arith in
    rw (e, t) (sym (drop-nil u)))

-- the place after all samples lent is a number of the file's
pub samples_fit : (s : List ℕ) (a z : ℕ) → a < 2 ^ 64 → length s < 2 ^ 64 → a + length (cond (leb a z && leb z (length s)) (part s a z) []) < 2 ^ 64
samples_fit s a z h k =
    by_cond (λ (l : List ℕ). a + length l < 2 ^ 64) (leb a z && leb z (length s))
    (λ t. let p = part_of a z (length s) t in omega (arith, part_length s a z p.0 p.1, p.0, p.1))
    (λ _. omega arith)
