-- The code of a rejected byte is the one that the bytes before it give. Assumes nothing.
use Prim.Native.Nat.{ℕ, zero, suc}
use mathlib.Core.Path.{◌≡◌, refl, sym, ◌∙◌, ap, subst}
use mathlib.Core.Bool.{Bool, true, false, cond}
use mathlib.Core.List.{List, [], ◌∷◌, ◌++◌}
use native.Mathlib.Omega.{arith}
use borrow.Author.Tests.{eqb-true}
use lib.Dec.{eqb}
use Rattle.codes.specs.Codes.{unknown_command}
use Rattle.grammar.specs.Grammar.{Context, ContextChange, Keep, Command, extended_commands, legal, count, Items, join}
use Rattle.grammar.specs.WrongCode.{code_for, WrongCode, listed, unlisted, after_1d}
use Rattle.std.specs.Prelude.{Result, Ok, Err}
use Rattle.grammar.specs.Scanner.{Place, Between, Extended, Inside, Scanner, Opening, Unknown, Known, Extension, opening_of, extension_of, between, going, opened, scan_at, scan}
use Rattle.grammar.proofs.Table.{every, every_mem, opening_known, opening_extension, opening_command, extension_known, extension_none}
use Rattle.grammar.proofs.Walks.{Walk, stay, move, walk_append, opened_1d, items_walk, walk_rest, accepted, never_accepted}

never_rejected {ℓ} : {A : Type ℓ} {w : ℕ} {h : Scanner} → ◌≡◌ {A = Result Scanner ℕ} (Ok h) (Err w) → A
never_rejected e = never_accepted (sym e)

unknown_code : {w : ℕ} → ◌≡◌ {A = Result Scanner ℕ} (Err unknown_command) (Err w) → w ≡ unknown_command
unknown_code e = cc

-- a row that rejects does so with the code for what it needs
known_code : (k : Command) (d : Context) (b w : ℕ) → opened (Known k) d b ≡ Err w → w ≡ code_for k.needs d
known_code k d b w e = go (legal k.needs d) e
  where
    go : (t : Bool) → cond t (Ok (going k.change (count k.operands d) b d)) (Err (code_for k.needs d)) ≡ Err w → w ≡ code_for k.needs d
    go true p = never_rejected p
    go false p = cc

-- AFTER 1D every code is 80

unknown_rows : (d : Context) → every (λ (k : Command). eqb (code_for k.needs d) unknown_command) extended_commands ≡ true
unfolding extended_commands
unknown_rows d = refl

extended_code : (d : Context) (b w : ℕ) → opened (extension_of b) d b ≡ Err w → w ≡ unknown_command
extended_code d b w e = go (extension_of b) refl e
  where
    go : (o : Opening) → extension_of b ≡ o → opened o d b ≡ Err w → w ≡ unknown_command
    go Unknown q p = unknown_code p
    go (Known k) q p = known_code k d b w p ∙ eqb-true _ _ (every_mem (λ (k : Command). eqb (code_for k.needs d) unknown_command) (unknown_rows d) (extension_known b k q).0)
    go Extension q p = absurd (extension_none b q)

never_extended : (e : ContextChange) (n b : ℕ) (d : Context) → (going e n b d).place ≡ Extended → ⊥
never_extended e zero b d q = let z : ◌≡◌ {A = ℕ} 0 1 = cc in omega arith
never_extended e (suc n) b d q = let z : ◌≡◌ {A = ℕ} 0 1 = cc in omega arith

-- a byte that leads there is 1D, and stands between items
leads_there : (p : Place) (d : Context) (b : ℕ) (i : Scanner) → scan_at p d b ≡ Ok i → i.place ≡ Extended → (b ≡ 0x1D) × (record { context = d; place = p } ≡ between i.context)
leads_there p d b i s e = at p s
  where
    gone : {A : Type 0} (c : ContextChange) (n : ℕ) → ◌≡◌ {A = Result Scanner ℕ} (Ok (going c n b d)) (Ok i) → A
    gone c n q = absurd (never_extended c n b d (ap (λ (h : Scanner). h.place) (sym (accepted q)) ∙ e))

    known : {A : Type 0} (k : Command) → opened (Known k) d b ≡ Ok i → A
    known {A} k q = go (legal k.needs d) q
      where
        go : (t : Bool) → cond t (Ok (going k.change (count k.operands d) b d)) (Err (code_for k.needs d)) ≡ Ok i → A
        go true r = gone k.change (count k.operands d) r
        go false r = never_accepted r

    at : (p : Place) → scan_at p d b ≡ Ok i → (b ≡ 0x1D) × (record { context = d; place = p } ≡ between i.context)
    at Between s = go (opening_of b) refl s
      where
        go : (o : Opening) → opening_of b ≡ o → opened o d b ≡ Ok i → (b ≡ 0x1D) × (between d ≡ between i.context)
        go Unknown q r = never_accepted r
        go (Known k) q r = known k r
        go Extension q r = (opening_extension b q, ap (λ (h : Scanner). between h.context) (sym (accepted r)))
    at Extended s = go (extension_of b) refl s
      where
        go : (o : Opening) → extension_of b ≡ o → opened o d b ≡ Ok i → (b ≡ 0x1D) × (record { context = d; place = Extended } ≡ between i.context)
        go Unknown q r = never_accepted r
        go (Known k) q r = known k r
        go Extension q r = absurd (extension_none b q)
    at (Inside f n) s = gone f n s

-- a walk that ends after 1D ends with that byte
ends_with_1d : {g i : Scanner} (b : ℕ) (bs : List ℕ) → Walk g (b ∷ bs) i → i.place ≡ Extended → (ys : List ℕ) × (ys ++ 0x1D ∷ [] ≡ b ∷ bs) × Walk g ys (between i.context)
ends_with_1d {g} {i} b [] (move s stay) e =
    let t = leads_there g.place g.context b i s e in
    ([], ap (λ (x : ℕ). x ∷ []) (sym t.0), subst (Walk g []) t.1 stay)
ends_with_1d b (x ∷ bs) (move s w) e = let r = ends_with_1d x bs w e in (b ∷ r.0, ap (λ (l : List ℕ). b ∷ l) r.1, move s r.2)

-- WHAT IS REJECTED, THE BYTES GIVE

between_code : (c d : Context) (xs : List (List ℕ)) (b w : ℕ) → Items c xs d → scan (between d) b ≡ Err w → WrongCode c (join xs) b w
between_code c d xs b w its e = go (opening_of b) refl e
  where
    go : (o : Opening) → opening_of b ≡ o → opened o d b ≡ Err w → WrongCode c (join xs) b w
    go Unknown q p =
        subst (WrongCode c (join xs) b) (sym (unknown_code p))
        (unlisted its b (λ k m n. let z : ◌≡◌ {A = ℕ} 0 1 = cc (q, opening_command m, n) in omega arith))
    go (Known k) q p =
        let m = opening_known b k q in
        rw (known_code k d b w p, m.1) (listed its k m.0)
    go Extension q p = never_rejected p

pub code_of : (c : Context) (p : Place) (d : Context) (ys : List ℕ) (b w : ℕ) → Walk (between c) ys (record { context = d; place = p }) → scan_at p d b ≡ Err w → WrongCode c ys b w
code_of c Between d ys b w v e = let r = walk_rest v refl in subst (λ (l : List ℕ). WrongCode c l b w) r.2 (between_code c d r.0 b w r.1 e)
code_of c Extended d [] b w v e = absurd (never_extended Keep 0 0 c (ended v))
  where
    ended : {i : Scanner} → Walk (between c) [] i → Between ≡ i.place
    ended stay = refl
code_of c Extended d (y ∷ ys) b w v e =
    let t = ends_with_1d y ys v refl in
    let r = walk_rest t.2 refl in
    subst (λ (l : List ℕ). WrongCode c l b w) (ap (λ (l : List ℕ). l ++ 0x1D ∷ []) r.2 ∙ t.1)
    (subst (WrongCode c (join r.0 ++ 0x1D ∷ []) b) (sym (extended_code d b w e)) (after_1d r.1 b))
code_of c (Inside f n) d ys b w v e = never_rejected e

-- WHAT THE BYTES GIVE IS REJECTED SO

pub code_is : {c : Context} {ys : List ℕ} {b v : ℕ} → WrongCode c ys b v → (g : Scanner) × Walk (between c) ys g × ((w : ℕ) → scan g b ≡ Err w → w ≡ v)
code_is (listed {d = d} its k m) = (between d, items_walk its, λ w e. known_code k d k.code w (sym (ap (λ (o : Opening). opened o d k.code) (opening_command m)) ∙ e))
code_is (unlisted {d = d} its b n) = (between d, items_walk its, λ w e. go w (opening_of b) refl e)
  where
    go : (w : ℕ) (o : Opening) → opening_of b ≡ o → opened o d b ≡ Err w → w ≡ unknown_command
    go w Unknown q p = unknown_code p
    go w (Known k) q p = let m = opening_known b k q in absurd (n k m.0 (sym m.1))
    go w Extension q p = never_rejected p
code_is (after_1d {d = d} its b) =
    (record { context = d; place = Extended }, walk_append (items_walk its) (move (opened_1d d) stay), λ w e. extended_code d b w e)
