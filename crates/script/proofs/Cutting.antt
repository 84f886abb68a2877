-- The loop that cuts bytes into records, over plain variables: from its start through a record to its ends. Assumes nothing.
use Prim.Native.Nat.{ℕ, suc, ◌+◌, ◌-◌, ◌≤◌, ◌<◌, min}
use mathlib.Core.Path.{◌≡◌, refl}
use mathlib.Core.Bool.{Bool, true, false}
use mathlib.Core.List.{List}
use native.Mathlib.Omega.{arith}
use borrow.Author.Tests.{leb-true, leb-false, lt-ltb, le-ltb}
use lib.Dec.{leb}
use lib.ListN.{length, take, drop, length-take, length-drop}
use lib.Seq.{take_all}
use Rattle.std.specs.Prelude.{Ok, Err}
use Rattle.wire.specs.Buffer.{Written}
use denote.Enum.Declared.{tag_of}
use Rattle.records.specs.contracts.kinds.Kind as kind
use Rattle.records.specs.declared.kinds.Kind.{Kind}
use Rattle.records.specs.declared.kinds.Kind.TheVariants.{Bytes, Fault, Samples}
use Rattle.records.specs.Records.{most_body, record_of}
use Rattle.text.specs.Lists.{read, wrong_at, Reads}
use Rattle.script.specs.Cuts.{kind_number, no_room, cut_for, cut_of}
use Rattle.text.specs.declared.Expected.TheVariants.{Room}
use Rattle.text.proofs.Loops.{Loop, last_turn, loop_ends, loop_on}

-- a kind written as a number
pub kind_written : (k : Kind) → tag_of kind.the_type k + 1 ≡ kind_number k
kind_written Bytes = refl
kind_written Fault = refl
kind_written Samples = refl

-- at the loop's head, with the rest of the body left
abbrev pub Cutting : Kind → List ℕ → ℕ → List ℕ → ℕ → List ℕ → List ℕ → ℕ → Type 0
Cutting kind body p o at x rest size = Loop (cut_of kind body (length o - at) p) o at (λ n. cut_for n (kind_number kind) rest (length o - size) p) (length rest) x size

pub cutting_first : (kind : Kind) (body : List ℕ) (p : ℕ) (o : List ℕ) (at : ℕ) → at ≤ length o → Cutting kind body p o at o body at
unfolding cut_of
cutting_first kind body p o at h = record { turns = suc (length body); enough = omega arith; reads = λ y r q. q; within = h; same = refl }

module _ (kind : Kind) (body : List ℕ) (p : ℕ) (o : List ℕ) (at : ℕ) (x rest : List ℕ) (size : ℕ) (g : Cutting kind body p o at x rest size) (n : ℕ) (m : n ≡ min (length rest) most_body) where
  -- there is no room for the next record
  pub cutting_full : length x - size < 4 + length (take n rest) → Reads (cut_of kind body (length o - at) p) o at x (no_room size p)
  unfolding cut_for
  cutting_full h = go (leb (length rest) most_body) refl
    where
      go : (b : Bool) → leb (length rest) most_body ≡ b → Reads (cut_of kind body (length o - at) p) o at x (no_room size p)
      go true e =
          let k : length (take n rest) ≡ length rest = simp length-take (omega (arith, m, leb-true (length rest) most_body e)) in
          loop_ends g (Err (wrong_at p Room)) (λ f. rw (e, lt-ltb (length o - size) (4 + length rest) (omega (arith, h, k, g.same))))
      go false e =
          let k : length (take n rest) ≡ most_body = simp length-take (omega (arith, m, leb-false (length rest) most_body e)) in
          loop_ends g (Err (wrong_at p Room)) (λ f. rw (e, lt-ltb (length o - size) (4 + most_body) (omega (arith, h, k, g.same))))

  -- .. or there is, and it is written
  module _ (h : 4 + length (take n rest) ≤ length x - size) (y : List ℕ) (k : ℕ) (w : Written x size (record_of (kind_number kind) (take n rest)) y k) where
    -- as the last
    pub cutting_done : length (drop n rest) ≡ 0 → Reads (cut_of kind body (length o - at) p) o at y (record { size = k; outcome = Ok tt })
    unfolding cut_for
    cutting_done z = go (leb (length rest) most_body) refl
      where
        go : (b : Bool) → leb (length rest) most_body ≡ b → Reads (cut_of kind body (length o - at) p) o at y (record { size = k; outcome = Ok tt })
        go true e =
            let r : take n rest ≡ rest = take_all n rest (omega (arith, m, leb-true (length rest) most_body e)) in
            let v : Written x size (record_of (kind_number kind) rest) y k = rw r at w in
            let j : 4 + length rest ≤ length x - size = rw r at h in
            last_turn g (read (record_of (kind_number kind) rest) (Ok tt)) (λ f. rw (e, le-ltb (length o - size) (4 + length rest) (omega (arith, j, g.same)))) (record { bytes = v.bytes; size = v.after; outcome = refl; within = omega (arith, v.after, j, g.within, g.same) })
        go false e = absurd (omega (arith, m, leb-false (length rest) most_body e, z, length-drop n rest))

    -- .. or more is left
    pub cutting_on : (length (drop n rest) ≡ 0 → ⊥) → Cutting kind body p o at y (drop n rest) k
    unfolding cut_for
    cutting_on z = go (leb (length rest) most_body) refl
      where
        go : (b : Bool) → leb (length rest) most_body ≡ b → Cutting kind body p o at y (drop n rest) k
        go true e = absurd (z (simp length-drop (omega (arith, m, leb-true (length rest) most_body e))))
        go false e =
            let r : n ≡ most_body = omega (arith, m, leb-false (length rest) most_body e) in
            let l : length (take n rest) ≡ most_body = simp length-take (omega (arith, m, leb-false (length rest) most_body e)) in
            let q : length o - size - (4 + most_body) ≡ length o - k = omega (arith, w.after, l) in
            loop_on g (record_of (kind_number kind) (take n rest)) (λ f. cut_for f (kind_number kind) (drop n rest) (length o - k) p) (length (drop n rest)) (λ f. rw (e, le-ltb (length o - size) (4 + most_body) (omega (arith, h, l, g.same)), q, r)) (simp length-drop (omega (arith, r, leb-false (length rest) most_body e))) w (omega (arith, w.after, l, h, g.same, g.within))
