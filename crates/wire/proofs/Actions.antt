-- Laws of actions in a row. Assumes nothing.
use mathlib.Core.Path.{◌≡◌, refl, sym, ap, subst, ◌∙◌}
use mathlib.Core.List.{List, [], ◌∷◌, ◌++◌, append_assoc}
use Prim.Native.Nat.{ℕ, ◌+◌, ◌*◌, ◌-◌, ◌/◌, ◌<◌}
use native.Mathlib.Numerals.{add-one}
use native.Mathlib.Omega.{arith}
use lib.ListN.{length, take, drop, get_or}
use lib.Seq.{take-suc}
use Rattle.wire.specs.Action.{Action, action_bytes, bytes_of}
use Rattle.wire.specs.Buffer.{Written}
use Rattle.wire.proofs.Buffers.{written_append, placed}

-- an action is four bytes, so the count of actions is a quarter of the count of bytes
pub bytes_length : (as' : List Action) → length (bytes_of as') ≡ 4 * length as'
bytes_length [] = refl
bytes_length (a ∷ as') = omega (arith, bytes_length as')

pub actions_count : (as' : List Action) → length (bytes_of as') / 4 ≡ length as'
actions_count as' = omega (arith, bytes_length as')

pub bytes_append : (as' bs : List Action) → bytes_of (as' ++ bs) ≡ bytes_of as' ++ bytes_of bs
bytes_append [] bs = refl
bytes_append (a ∷ as') bs = ap (λ (r : List ℕ). action_bytes a ++ r) (bytes_append as' bs) ∙ sym (append_assoc (action_bytes a) (bytes_of as') (bytes_of bs))

-- a turn of the loop that writes a row of actions
pub row_turn : (row : List Action) (i : ℕ) (d : Action) {l m n : List ℕ} {at k : ℕ} → i < length row → Written l 0 (bytes_of (take i row)) m at
    → Written (take (length m - at) (drop at m)) 0 (action_bytes (get_or row i d)) n k
    → Written l 0 (bytes_of (take (i + 1) row)) (take at m ++ (n ++ drop (length m - at) (drop at m))) (at + k)
row_turn row i d {l} {m} {n} {at} {k} h v w =
    let a = get_or row i d in
    let e : bytes_of (take (i + 1) row) ≡ bytes_of (take i row) ++ action_bytes a = ap (λ (j : ℕ). bytes_of (take j row)) (add-one i) ∙ ap bytes_of (take-suc row i d h) ∙ bytes_append (take i row) (a ∷ []) in
    subst (λ (zs : List ℕ). Written l 0 zs (take at m ++ (n ++ drop (length m - at) (drop at m))) (at + k)) (sym e) (written_append l 0 _ _ v (placed {m = m} {at = at} w))
