-- A line that fits is in the buffer whole. Assumes nothing.
use Prim.Native.Nat.{ℕ, ◌-◌, ◌^◌, ◌≤◌, ◌<◌}
use mathlib.Core.Path.{◌≡◌, refl, sym, ap, subst, ◌∙◌}
use mathlib.Core.Bool.{Bool, true, false}
use mathlib.Core.List.{List, [], ◌∷◌, ◌++◌}
use native.Mathlib.Nat.{pow-le-pow_right}
use native.Mathlib.Omega.{arith}
use borrow.Author.Tests.{leb-true, leb-false}
use lib.Dec.{leb}
use lib.ListN.{length, get_or, take, length-append}
use lib.Seq.{length-take-le, get_or-take}
use Rattle.io.specs.Digits.{last_digits, IsDigitCount}
use Rattle.padding.specs.Padding.{bytes}
use Rattle.wire.specs.Buffer.{Written}
use Rattle.wire.proofs.Buffers.{overwrite_length, written_append}
use Rattle.grammar.specs.declared.Verdict.{Verdict}
use Rattle.grammar.specs.declared.Verdict.TheVariants.{Wrong}
use Rattle.verdicts.specs.Lines.{code_end, verdict_line, HasDigits, LineWritten}

-- writing leaves a buffer's length
pub written_length : {o xs x : List ℕ} {at n : ℕ} → Written o at xs x n → length x ≡ length o
written_length {o} {xs} {x} {at} {n} w = ap length w.bytes ∙ overwrite_length o at xs

-- a number below a power of the base has at most as many digits
pub few_digits : (base least most n k : ℕ) → 1 ≤ base → least ≤ most → n < base ^ most → IsDigitCount base least n k → k ≤ most
few_digits base least most n k z l h f = go (leb k most) refl
  where
    go : (b : Bool) → leb k most ≡ b → k ≤ most
    go true e = leb-true k most e
    go false e =
        let more = leb-false k most e in
        omega (arith, h, f.2 (omega (arith, more, l)), pow-le-pow_right {n = base} z {i = most} {j = k - 1} (omega (arith, more)))

-- a byte has two hexadecimal digits where no fewer are asked for
pub code_ended : (w r : ℕ) (x : List ℕ) → w < 256 → IsDigitCount 16 2 w r → take r x ≡ last_digits 16 r w → 0x20 ∷ 0x28 ∷ get_or x 0 0 ∷ get_or x 1 0 ∷ 0x29 ∷ 0x0A ∷ [] ≡ code_end w
code_ended w r x h f e = λ i. 0x20 ∷ 0x28 ∷ digit 0 (omega arith) i ∷ digit 1 (omega arith) i ∷ 0x29 ∷ 0x0A ∷ []
  where
    two : r ≡ 2
    two = omega (arith, f.0, few_digits 16 2 2 w r (omega arith) (omega arith) h f)

    digit : (k : ℕ) → k < 2 → get_or x k 0 ≡ get_or (last_digits 16 2 w) k 0
    digit k l = sym (get_or-take 2 x k 0 l) ∙ ap (λ (ds : List ℕ). get_or ds k 0) (subst (λ (n : ℕ). take n x ≡ last_digits 16 n w) two e)

pub line_written : (v : Verdict) (k : ℕ) {o x : List ℕ} {n : ℕ} → HasDigits v k → Written o 0 (verdict_line v k) x n → length (verdict_line v k) ≤ length o → LineWritten v o x n
line_written v k {o} {x} {n} d w h = record { places = k; fewest = d; wrote = w; counts = (within, sym (length-take-le n x within)) }
  where
    within : n ≤ length x
    within = omega (arith, w.after, written_length w, h)

-- the three parts of the line of a wrong place
pub wrong_written : (place code k : ℕ) (ds : List ℕ) {o m l x : List ℕ} {a b n : ℕ} → IsDigitCount 10 1 place k → ds ≡ last_digits 10 k place → length ds ≤ 20 → 35 ≤ length o
    → Written o 0 (bytes "wrong at ") m a → Written m a ds l b → {es : List ℕ} → es ≡ code_end code → Written l b es x n → LineWritten (Wrong place code) o x n
wrong_written place code k ds {o} {m} {l} {x} {a} {b} {n} f e s r u v {es} q w =
    line_written (Wrong place code) k f (rw (sym e) (written_append o 0 (bytes "wrong at ") (ds ++ code_end code) u (written_append m a ds (code_end code) v (subst (λ (xs : List ℕ). Written l b xs x n) q w)))) (rw (sym e) fits)
  where
    fits : length (bytes "wrong at " ++ ds ++ code_end code) ≤ length o
    fits = rw (length-append ds (code_end code)) (omega arith)
