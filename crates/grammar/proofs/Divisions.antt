-- Orderly bytes divide into items in one way only. Assumes nothing.
use Prim.Native.Nat.{ℕ}
use mathlib.Core.Path.{◌≡◌, refl, sym, ◌∙◌, ap, subst}
use mathlib.Core.List.{List, [], ◌∷◌, ◌++◌, head-eq_of_cons-eq, tail-eq_of_cons-eq, append_cancel_left, nil≢cons}
use native.Mathlib.Omega.{arith}
use lib.ListN.{length}
use Rattle.grammar.specs.Grammar.{Context, Command, count, context_after, last, Item, command, extended, Items, next, join, Division}
use Rattle.grammar.proofs.Table.{same_command, same_extended, no_1d}

same_front : (a b r s : List ℕ) → length a ≡ length b → a ++ r ≡ b ++ s → a ≡ b
same_front [] [] r s l e = refl
same_front [] (y ∷ b) r s l e = absurd (omega arith)
same_front (x ∷ a) [] r s l e = absurd (omega arith)
same_front (x ∷ a) (y ∷ b) r s l e = λ i. head-eq_of_cons-eq e i ∷ same_front a b r s (omega arith) (tail-eq_of_cons-eq e) i

-- two items at the front of the same bytes are one
same_item : {c d e : Context} {x y : List ℕ} → Item c x d → Item c y e → (r s : List ℕ) → x ++ r ≡ y ++ s → (x ≡ y) × (d ≡ e)
same_item {c} (command k m l ops q) (command k' m' l' ops' q') r s p =
    let kk : k ≡ k' = same_command m m' (head-eq_of_cons-eq p) in
    let oo : ops ≡ ops' = same_front ops ops' r s (q ∙ ap (λ (a : Command). count a.operands c) kk ∙ sym q') (tail-eq_of_cons-eq p) in
    (λ i. (kk i).code ∷ oo i, λ i. context_after (kk i).change (last (kk i).code (oo i)) c)
same_item (command k m l ops q) (extended k' m' l' ops' q') r s p = absurd (no_1d m (head-eq_of_cons-eq p))
same_item (extended k m l ops q) (command k' m' l' ops' q') r s p = absurd (no_1d m' (sym (head-eq_of_cons-eq p)))
same_item {c} (extended k m l ops q) (extended k' m' l' ops' q') r s p =
    let t = tail-eq_of_cons-eq p in
    let kk : k ≡ k' = same_extended m m' (head-eq_of_cons-eq t) in
    let oo : ops ≡ ops' = same_front ops ops' r s (q ∙ ap (λ (a : Command). count a.operands c) kk ∙ sym q') (tail-eq_of_cons-eq t) in
    (λ i. 0x1D ∷ (kk i).code ∷ oo i, λ i. context_after (kk i).change (last (kk i).code (oo i)) c)

never_empty : {c d : Context} {x : List ℕ} → Item c x d → (r : List ℕ) → [] ≡ x ++ r → ⊥
never_empty (command k m l ops q) r p = nil≢cons p
never_empty (extended k m l ops q) r p = nil≢cons p

same_items : {c c' d e : Context} {xs ys : List (List ℕ)} → c ≡ c' → Items c xs d → Items c' ys e → join xs ≡ join ys → xs ≡ ys
same_items cc' Items.none Items.none p = refl
same_items cc' Items.none (next {xs = ys} i r) p = absurd (never_empty i (join ys) p)
same_items cc' (next {xs = xs} i r) Items.none p = absurd (never_empty i (join xs) (sym p))
same_items {c} cc' (next {d = d₁} {x = x} {xs = xs} i r) (next {d = d₂} {x = y} {xs = ys} i' r') p =
    let h = same_item i (subst (λ (a : Context). Item a y d₂) (sym cc') i') (join xs) (join ys) p in
    let t : join xs ≡ join ys = append_cancel_left x (join xs) (join ys) (p ∙ ap (λ (a : List ℕ). a ++ join ys) (sym h.0)) in
    λ i. h.0 i ∷ same_items {c = d₁} {c' = d₂} h.1 r r' t i

pub one_division : (c : Context) (bs : List ℕ) (p q : Division c bs) → p.0 ≡ q.0
one_division c bs p q = same_items refl p.2 q.2 (p.3 ∙ sym q.3)
