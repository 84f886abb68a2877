-- Its three parts are written one after another.
use Prim.Native.Nat.{ℕ, ◌^◌, ◌≤◌, ◌<◌}
use mathlib.Core.Path.{◌≡◌, ap}
use mathlib.Core.List.{List}
use native.Mathlib.Omega.{arith}
use lib.ListN.{length}
use Rattle.io.specs.Digits.{IsDigitCount}
use Rattle.verdicts.specs.Lines.{code_end}
use Rattle.verdicts.proofs.Lines.{few_digits, written_length, wrong_written}
use Rattle.verdicts.proofs.put_wrong.Goals as goal

-- a number of 64 bits has at most 20 decimal digits
place_digits : (n k : ℕ) → n < 10 ^ 20 → IsDigitCount 10 1 n k → k ≤ 20
place_digits n k h f = few_digits 10 1 20 n k (omega arith) (omega arith) h f

end_length : (w : ℕ) {xs : List ℕ} → xs ≡ code_end w → length xs ≡ 6
end_length w e = ap length e

pub put_bytes-next-requires : goal.put_bytes-next-requires
put_bytes-next-requires c =
    let w = c.put_bytes-at.ensures in
    let d = c.decimal-count in
    omega (arith, w.after, written_length w, d.ensures.in_bounds.1, place_digits c.args.place d.result (omega arith) d.ensures.len, c.requires)

pub put_bytes-requires : goal.put_bytes-requires
put_bytes-requires c =
    let v = c.put_bytes-at.ensures in
    let w = c.put_bytes-next.ensures in
    let d = c.decimal-count in
    omega (arith, v.after, written_length v, w.after, written_length w, end_length c.args.code c.code_end-end.ensures, d.ensures.in_bounds.1, place_digits c.args.place d.result (omega arith) d.ensures.len, c.requires)

pub returns : goal.returns
returns c =
    let d = c.decimal-count in
    let n = d.ensures in
    wrong_written c.args.place c.args.code d.result _ n.len n.digits (omega (arith, n.in_bounds.1, place_digits c.args.place d.result (omega arith) n.len)) c.requires c.put_bytes-at.ensures c.put_bytes-next.ensures c.code_end-end.ensures c.put_bytes.ensures
