-- The judge answers as 01's section "Grammar" says. Assumes nothing.
use Prim.Native.Nat.{ℕ, zero, suc, ◌≤◌}
use mathlib.Core.Path.{◌≡◌, refl, sym, ◌∙◌, ap, subst}
use mathlib.Core.List.{List, [], ◌∷◌, ◌++◌, append-nil}
use mathlib.Core.Logic.{◌↔◌}
use native.Mathlib.Omega.{arith}
use lib.ListN.{take, drop, take-append-drop}
use Rattle.grammar.specs.Grammar.{Context, Orderly, Continuable}
use Rattle.grammar.specs.Scanner.{Place, Between, Extended, Inside, Scanner, between, Course, through, rejected_at, scan_all}
use Rattle.grammar.specs.Verdict.{Verdict, Whole, Open, Wrong, SmallestWrong, Says, at_end, verdict, judge_of, Judged, FirstWrong}
use Rattle.grammar.proofs.Walks.{stay, walk_split, continuable_walk}
use Rattle.grammar.proofs.Decides.{decides}

-- THE TWO WAYS OF SAYING "FIRST"

prefix_continuable : (c : Context) (xs ys : List ℕ) → Continuable c (xs ++ ys) → Continuable c xs
prefix_continuable c xs ys o = let s = walk_split xs ((continuable_walk c (xs ++ ys)).0 o).1 in (continuable_walk c xs).1 (s.0, s.1)

-- a shorter front of a list is a front of a longer one
front : (j k : ℕ) (bs : List ℕ) → j ≤ k → (ys : List ℕ) × (take j bs ++ ys ≡ take k bs)
front zero k bs h = (take k bs, refl)
front (suc j) zero bs h = absurd (omega arith)
front (suc j) (suc k) [] h = ([], refl)
front (suc j) (suc k) (b ∷ bs) h = let f = front j k bs (omega arith) in (f.0, ap (λ (l : List ℕ). b ∷ l) f.1)

pub first_is_smallest : (c : Context) (bs : List ℕ) (k : ℕ) → FirstWrong c bs k ↔ SmallestWrong c bs k
first_is_smallest c bs k = (there, back k)
  where
    there : FirstWrong c bs k → SmallestWrong c bs k
    there (l, a, n) = (l, n, λ j h. let f = front (suc j) k bs h in prefix_continuable c (take (suc j) bs) f.0 (subst (Continuable c) (sym f.1) a))

    back : (m : ℕ) → SmallestWrong c bs m → FirstWrong c bs m
    back zero (l, n, a) = (l, (continuable_walk c []).1 (between c, stay), n)
    back (suc m) (l, n, a) = (l, a m (omega arith), n)

-- WHAT THE JUDGE ANSWERS, 01 SAYS

-- orderly bytes leave the scanner between items
ends_between : (c : Context) (bs : List ℕ) (g : Scanner) → scan_all (between c) bs ≡ through g → Orderly c bs → g.place ≡ Between
ends_between c bs g e o =
    let t = (decides c bs).orderly.0 o in
    let q : g ≡ between t.0 = cc (e, t.1) in
    ap (λ (h : Scanner). h.place) q

end_said : (c : Context) (bs : List ℕ) (d : Context) (p : Place) → scan_all (between c) bs ≡ through (record { context = d; place = p }) → Says c bs (at_end p)
end_said c bs d Between e = (decides c bs).orderly.1 (d, e)
end_said c bs d Extended e =
    (λ o. let q = ends_between c bs _ e o in let z : ◌≡◌ {A = ℕ} 0 1 = cc in omega arith, (decides c bs).continuable.1 (_, e))
end_said c bs d (Inside f n) e =
    (λ o. let q = ends_between c bs _ e o in let z : ◌≡◌ {A = ℕ} 0 1 = cc in omega arith, (decides c bs).continuable.1 (_, e))

answer_said : (c : Context) (bs : List ℕ) (o : Course) → scan_all (between c) bs ≡ o → Says c bs (verdict o)
answer_said c bs (through g) e = end_said c bs g.context g.place e
answer_said c bs (rejected_at k w) e = let f = ((decides c bs).code k w).1 e in ((first_is_smallest c bs k).0 f.0, f.1)

-- THE ANSWERS EXCLUDE EACH OTHER

orderly_continuable : (c : Context) (bs : List ℕ) → Orderly c bs → Continuable c bs
orderly_continuable c bs o = ([], tt, subst (Orderly c) (sym (append-nil bs)) o)

never_wrong {ℓ} : {A : Type ℓ} (c : Context) (bs : List ℕ) (k : ℕ) → Continuable c bs → SmallestWrong c bs k → A
never_wrong c bs k o s = absurd (s.1 (prefix_continuable c (take (suc k) bs) (drop (suc k) bs) (subst (Continuable c) (sym (take-append-drop (suc k) bs)) o)))

-- the verdict at a wrong place is the scanner's
said_wrong : (c : Context) (bs : List ℕ) (k w : ℕ) → Says c bs (Wrong k w) → judge_of c bs ≡ Wrong k w
said_wrong c bs k w s = ap verdict (((decides c bs).code k w).0 ((first_is_smallest c bs k).1 s.0, s.1))

exclusive : (c : Context) (bs : List ℕ) (v w : Verdict) → Says c bs v → Says c bs w → v ≡ w
exclusive c bs Whole Whole s t = refl
exclusive c bs Whole Open s t = absurd (t.0 s)
exclusive c bs Whole (Wrong k x) s t = never_wrong c bs k (orderly_continuable c bs s) t.0
exclusive c bs Open Whole s t = absurd (s.0 t)
exclusive c bs Open Open s t = refl
exclusive c bs Open (Wrong k x) s t = never_wrong c bs k s.1 t.0
exclusive c bs (Wrong k x) Whole s t = never_wrong c bs k (orderly_continuable c bs t) s.0
exclusive c bs (Wrong k x) Open s t = never_wrong c bs k t.1 s.0
exclusive c bs (Wrong k x) (Wrong j y) s t = sym (said_wrong c bs k x s) ∙ said_wrong c bs j y t

-- THE THEOREM

pub judge_right : (c : Context) (bs : List ℕ) → Judged c bs
judge_right c bs =
    let said = answer_said c bs (scan_all (between c) bs) refl in
    record { answers = λ v. (λ e. subst (Says c bs) e said, λ s. exclusive c bs (judge_of c bs) v said s); exclude = exclusive c bs }
