-- The loop that reads a list, over plain variables: from its start through an item to its ends. Assumes nothing.
use Prim.Native.Nat.{ℕ, suc, ◌-◌, ◌≤◌, ◌<◌}
use mathlib.Core.Path.{◌≡◌, refl, subst}
use mathlib.Core.List.{List, [], ◌∷◌}
use native.Mathlib.Omega.{arith}
use borrow.Author.Tests.{eqb-false, le-leb, lt-leb}
use lib.Dec.{eqb}
use lib.ListN.{length, replicate, length-replicate}
use Rattle.std.specs.Prelude.{Option, Some, None, Result, Ok, Err}
use Rattle.wire.specs.Buffer.{Written}
use Rattle.wire.proofs.Choices.{by_cond}
use Rattle.text.specs.Words.{word_at, text_of, same, hex_of, count_of}
use Rattle.text.specs.Lists.{Wrong, wrong_at, counted, with_count, repeated, item, started, item_at, list_for, list_of, Reads}
use Rattle.text.specs.declared.lists.Run.{Run}
use Rattle.text.specs.declared.Expected.TheVariants.{Room}
use Rattle.text.proofs.Loops.{Loop, loop_ends, loop_on}
use Rattle.text.proofs.Spans.{word_after, word_forward, word_within, word_there}

-- AN ITEM ends further on in the text
module _ (t : List ℕ) (p : ℕ) where
  Forward : Run → Type 0
  Forward r = (p < r.next) × (r.next ≤ length t)

  RunForward : Result Run Wrong → Type 0
  RunForward (Ok r) = Forward r
  RunForward (Err e) = Unit {0}

  ItemForward : Result (Option Run) Wrong → Type 0
  ItemForward (Ok (Some r)) = Forward r
  ItemForward (Ok None) = Unit {0}
  ItemForward (Err e) = Unit {0}

  counted_forward : (b q : ℕ) → p < q → q ≤ length t → (k : Option ℕ) → RunForward (counted b (word_at t q) k)
  unfolding RunForward Forward
  counted_forward b q l m (Some k) = (omega (arith, word_after t q, word_forward t q), word_within t q m)
  counted_forward b q l m None = tt

  repeated_forward : (b q : ℕ) → p < q → q ≤ length t → RunForward (repeated t b q (word_at t q))
  unfolding RunForward Forward
  repeated_forward b q l m =
      by_cond RunForward (same (text_of t (word_at t q)) (0x78 ∷ []))
      (λ _. counted_forward b (word_at t q).end (omega (arith, word_after t q, word_forward t q)) (word_within t q m) (count_of (text_of t (word_at t (word_at t q).end))))
      (λ _. (l, m))

  item_forward : (r : Result Run Wrong) → RunForward r → ItemForward (item r)
  unfolding RunForward ItemForward
  item_forward (Ok r) h = h
  item_forward (Err e) h = tt

  started_forward : (v : Option ℕ) → p < (word_at t p).end → (word_at t p).end ≤ length t → ItemForward (started t (word_at t p) v)
  unfolding ItemForward
  started_forward (Some b) l m = item_forward (repeated t b (word_at t p).end (word_at t (word_at t p).end)) (repeated_forward b (word_at t p).end l m)
  started_forward None l m = tt

  next_forward : ItemForward (item_at t p)
  unfolding item_at ItemForward
  next_forward =
      by_cond ItemForward (eqb (word_at t p).start (word_at t p).end) (λ _. tt)
      (λ e.
      let l : (word_at t p).start < (word_at t p).end = omega (arith, word_forward t p, eqb-false (word_at t p).start (word_at t p).end e) in
      started_forward (hex_of (text_of t (word_at t p))) (omega (arith, word_after t p, l)) (word_there t p l))

  pub item_next : {r : Run} → item_at t p ≡ Ok (Some r) → (p < r.next) × (r.next ≤ length t)
  unfolding ItemForward Forward
  item_next e = subst ItemForward e next_forward

-- at the loop's head, with the text from a place on left
abbrev pub Listing : List ℕ → ℕ → List ℕ → ℕ → List ℕ → ℕ → ℕ → Type 0
Listing t at o from x p size = Loop (list_of t (length o - from) at) o from (λ n. list_for n t (length o - size) p) (length t - p) x size

pub listing_first : (t : List ℕ) (at : ℕ) (o : List ℕ) (from : ℕ) → from ≤ length o → Listing t at o from o at from
unfolding list_of
listing_first t at o from k = record { turns = suc (length t); enough = omega arith; reads = λ y r q. q; within = k; same = refl }

module _ (t : List ℕ) (at : ℕ) (o : List ℕ) (from : ℕ) (x : List ℕ) (p size : ℕ) (g : Listing t at o from x p size) where
  pub listing_end : item_at t p ≡ Ok None → Reads (list_of t (length o - from) at) o from x (record { size = size; outcome = Ok tt })
  unfolding list_for
  listing_end e = loop_ends g (Ok tt) (λ n. rw e)

  pub listing_wrong : {w : Wrong} → item_at t p ≡ Err w → Reads (list_of t (length o - from) at) o from x (record { size = size; outcome = Err w })
  unfolding list_for
  listing_wrong {w} e = loop_ends g (Err w) (λ n. rw e)

  -- there is no room for the item
  pub listing_full : {r : Run} → item_at t p ≡ Ok (Some r) → length x - size < r.count → Reads (list_of t (length o - from) at) o from x (record { size = size; outcome = Err (wrong_at p Room) })
  unfolding list_for
  listing_full {r} e l = loop_ends g (Err (wrong_at p Room)) (λ n. rw (e, lt-leb r.count (length o - size) (omega (arith, g.same))))

  -- .. or there is, and it is written
  pub listing_on : {r : Run} → item_at t p ≡ Ok (Some r) → r.count ≤ length x - size → (y : List ℕ) (n : ℕ) → Written x size (replicate r.count r.byte) y n → Listing t at o from y r.next n
  unfolding list_for
  listing_on {r} e l y n w =
      let m : length o - size - r.count ≡ length o - n = omega (arith, w.after, length-replicate r.count r.byte) in
      let q = item_next t p e in
      loop_on g (replicate r.count r.byte) (λ f. list_for f t (length o - n) r.next) (length t - r.next) (λ f. rw (e, le-leb r.count (length o - size) (omega (arith, l, g.same)), m)) (omega (arith, q.0, q.1)) w (omega (arith, w.after, length-replicate r.count r.byte, l, g.within, g.same))
