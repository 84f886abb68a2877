-- The scanner decides the grammar: it goes through exactly what can be continued, ends between items exactly after orderly
-- bytes, and stops at the first wrong place. Assumes nothing.
use Prim.Native.Nat.{ℕ, zero, suc, ◌<◌}
use mathlib.Core.Path.{◌≡◌, refl, ◌∙◌, ap, subst}
use mathlib.Core.Bool.{Bool, true, false, cond}
use mathlib.Core.List.{List, [], ◌∷◌}
use native.Mathlib.Omega.{arith}
use lib.ListN.{length, take, get_or}
use lib.Seq.{take-suc}
use Rattle.codes.specs.Codes.{no_configuration, wrong_interface, rejecting}
use Rattle.grammar.specs.Grammar.{SPI, Context, Needs, Common, Selected, Configured, selected, legal, count}
use Rattle.grammar.specs.WrongCode.{code_for}
use Rattle.std.specs.Prelude.{Result, Ok, Err}
use Rattle.grammar.specs.Scanner.{Place, Between, Extended, Inside, Scanner, Opening, Unknown, Known, Extension, opening_of, extension_of, between, going, opened, scan_at, scan, Course, through, rejected_at, later, resume, scan_all}
use Rattle.grammar.specs.Verdict.{FirstWrong, CodeAt, Decided}
use Rattle.grammar.proofs.Walks.{Walk, stay, move, walk_split, orderly_walk, continuable_walk}
use Rattle.grammar.proofs.Codes.{code_of, code_is}

-- COURSES AND WALKS

walk_course : {g h : Scanner} {bs : List ℕ} → Walk g bs h → scan_all g bs ≡ through h
walk_course stay = refl
walk_course (move {bs = bs} e w) = ap (λ (s : Result Scanner ℕ). resume s (λ (g : Scanner). scan_all g bs)) e ∙ ap later (walk_course w)

later_through : (o : Course) {h : Scanner} → later o ≡ through h → o ≡ through h
later_through (through g) e = e
later_through (rejected_at k w) e = let z : ◌≡◌ {A = ℕ} 0 1 = cc in absurd (omega arith)

course_walk : (g : Scanner) (bs : List ℕ) {h : Scanner} → scan_all g bs ≡ through h → Walk g bs h
course_walk g [] {h} e = let q : g ≡ h = cc in subst (λ (i : Scanner). Walk g [] i) q stay
course_walk g (b ∷ bs) {h} e = go (scan g b) refl e (λ i. course_walk i bs)
  where
    go : (s : Result Scanner ℕ) → scan g b ≡ s → resume s (λ (i : Scanner). scan_all i bs) ≡ through h → ((i : Scanner) → scan_all i bs ≡ through h → Walk i bs h) → Walk g (b ∷ bs) h
    go (Ok i) q p r = move q (r i (later_through (scan_all i bs) p))
    go (Err w) q p r = let z : ◌≡◌ {A = ℕ} 0 1 = cc in absurd (omega arith)

-- THE FIRST PLACE THAT THE SCANNER DOES NOT PASS

abbrev Passes : Scanner → List ℕ → Type 0
Passes g bs = (h : Scanner) × Walk g bs h

abbrev FirstStop : Scanner → List ℕ → ℕ → Type 0
FirstStop g bs k = (k < length bs) × Passes g (take k bs) × ¬ Passes g (take (suc k) bs)

first_move : {g : Scanner} {b : ℕ} {bs : List ℕ} → Passes g (b ∷ bs) → (h : Scanner) × (scan g b ≡ Ok h) × Passes h bs
first_move {g} {b} {bs} (i, w) = go w
  where
    go : {i : Scanner} → Walk g (b ∷ bs) i → (h : Scanner) × (scan g b ≡ Ok h) × Passes h bs
    go {i} (move {h = h} e w) = (h, e, (i, w))

stop_rejected : (g : Scanner) (bs : List ℕ) (k : ℕ) → FirstStop g bs k → (w : ℕ) × (scan_all g bs ≡ rejected_at k w)
stop_rejected g [] k f = absurd (omega (arith, f.0))
stop_rejected g (b ∷ bs) zero f = go (scan g b) refl
  where
    go : (s : Result Scanner ℕ) → scan g b ≡ s → (w : ℕ) × (resume s (λ (i : Scanner). scan_all i bs) ≡ rejected_at zero w)
    go (Ok h) q = absurd (f.2 (h, move q stay))
    go (Err w) q = (w, refl)
stop_rejected g (b ∷ bs) (suc k) f =
    let m = first_move f.1 in
    let r = stop_rejected m.0 bs k (omega (arith, f.0), m.2, λ t. f.2 (t.0, move m.1 t.1)) in
    (r.0, ap (λ (s : Result Scanner ℕ). resume s (λ (i : Scanner). scan_all i bs)) m.1 ∙ ap later r.1)

-- bytes are all accepted, and the byte b after them is rejected with the code w
abbrev Stops : Scanner → List ℕ → ℕ → ℕ → Type 0
Stops g xs b w = (h : Scanner) × Walk g xs h × (scan h b ≡ Err w)

rejected_walk : (g : Scanner) (bs : List ℕ) (k w : ℕ) → scan_all g bs ≡ rejected_at k w → (k < length bs) × Stops g (take k bs) (get_or bs k 0) w
rejected_walk g [] k w e = let z : ◌≡◌ {A = ℕ} 0 1 = cc in absurd (omega arith)
rejected_walk g (b ∷ bs) zero w e = (omega arith, (g, stay, go (scan g b) refl e))
  where
    go : (s : Result Scanner ℕ) → scan g b ≡ s → resume s (λ (i : Scanner). scan_all i bs) ≡ rejected_at zero w → scan g b ≡ Err w
    go (Ok h) q p = inner (scan_all h bs) p
      where
        inner : (o : Course) → later o ≡ rejected_at zero w → scan g b ≡ Err w
        inner (through i) p = let z : ◌≡◌ {A = ℕ} 0 1 = cc in absurd (omega arith)
        inner (rejected_at j v) p = let z : suc j ≡ 0 = cc in absurd (omega arith)
    go (Err v) q p = let x : v ≡ w = cc in q ∙ ap Err x
rejected_walk g (b ∷ bs) (suc k) w e = go (scan g b) refl e (λ h. rejected_walk h bs k w)
  where
    sooner : (o : Course) → later o ≡ rejected_at (suc k) w → o ≡ rejected_at k w
    sooner (through i) p = let z : ◌≡◌ {A = ℕ} 0 1 = cc in absurd (omega arith)
    sooner (rejected_at j v) p = cc

    go : (s : Result Scanner ℕ) → scan g b ≡ s → resume s (λ (i : Scanner). scan_all i bs) ≡ rejected_at (suc k) w → ((h : Scanner) → scan_all h bs ≡ rejected_at k w → (k < length bs) × Stops h (take k bs) (get_or bs k 0) w) → (suc k < length (b ∷ bs)) × Stops g (b ∷ take k bs) (get_or bs k 0) w
    go (Ok h) q p r = let t = r h (sooner (scan_all h bs) p) in let n = t.0 in (omega arith, (t.1.0, move q t.1.1, t.1.2))
    go (Err v) q p r = let z : 0 ≡ suc k = cc in absurd (omega arith)

same_end : {g h i : Scanner} {bs : List ℕ} → Walk g bs h → Walk g bs i → h ≡ i
same_end v w = let p = walk_course v in let q = walk_course w in cc

rejected_stop : (g : Scanner) (bs : List ℕ) (k w : ℕ) → scan_all g bs ≡ rejected_at k w → FirstStop g bs k
rejected_stop g bs k w e =
    let r = rejected_walk g bs k w e in (
      r.0,
      (r.1.0, r.1.1),
      λ t. let s = walk_split (take k bs) (subst (λ (l : List ℕ). Walk g l t.0) (take-suc bs k 0 r.0) t.1) in
          let m = first_move (t.0, s.2) in
          let q : r.1.0 ≡ s.0 = same_end r.1.1 s.1 in
          let z : ◌≡◌ {A = ℕ} 0 1 = cc (m.1, r.1.2, q) in
          omega arith,
    )

-- A REJECTED BYTE'S CODE REJECTS

abbrev Rejecting : Result Scanner ℕ → Type 0
Rejecting (Ok g) = Unit {0}
Rejecting (Err w) = rejecting w ≡ true

code_rejecting : (n : Needs) (c : Context) → rejecting (code_for n c) ≡ true
code_rejecting Common c = refl
code_rejecting (Selected i) c = refl
code_rejecting Configured c = go (selected SPI c)
  where
    go : (t : Bool) → rejecting (cond t no_configuration wrong_interface) ≡ true
    go true = refl
    go false = refl

opened_rejecting : (o : Opening) (c : Context) (b : ℕ) → Rejecting (opened o c b)
opened_rejecting Unknown c b = refl
opened_rejecting (Known k) c b = go (legal k.needs c)
  where
    go : (t : Bool) → Rejecting (cond t (Ok (going k.change (count k.operands c) b c)) (Err (code_for k.needs c)))
    go true = tt
    go false = code_rejecting k.needs c
opened_rejecting Extension c b = tt

scan_rejecting : (p : Place) (c : Context) (b : ℕ) → Rejecting (scan_at p c b)
scan_rejecting Between c b = opened_rejecting (opening_of b) c b
scan_rejecting Extended c b = opened_rejecting (extension_of b) c b
scan_rejecting (Inside e n) c b = tt

pub reject_code : (g : Scanner) (b w : ℕ) → scan g b ≡ Err w → rejecting w ≡ true
reject_code g b w e = subst Rejecting e (scan_rejecting g.place g.context b)

-- .. AND IS THE ONE THAT THE BYTES GIVE

module _ (c : Context) (bs : List ℕ) (k w : ℕ) where
  rejected_code : scan_all (between c) bs ≡ rejected_at k w → CodeAt c bs k w
  rejected_code e = let r = rejected_walk (between c) bs k w e in code_of c r.1.0.place r.1.0.context (take k bs) (get_or bs k 0) w r.1.1 r.1.2

  code_rejected : (v : ℕ) → scan_all (between c) bs ≡ rejected_at k v → CodeAt c bs k w → scan_all (between c) bs ≡ rejected_at k w
  code_rejected v e x =
      let r = rejected_walk (between c) bs k v e in
      let s = code_is x in
      e ∙ ap (rejected_at k) (s.2 v (subst (λ (h : Scanner). scan h (get_or bs k 0) ≡ Err v) (same_end r.1.1 s.1) r.1.2))

-- THE THEOREM

pub decides : (c : Context) (bs : List ℕ) → Decided c bs
decides c bs = record {
  orderly = (
    λ o. let w = (orderly_walk c bs).0 o in (w.0, walk_course w.1),
    λ t. (orderly_walk c bs).1 (t.0, course_walk (between c) bs t.1),
  );
  continuable = (
    λ o. let w = (continuable_walk c bs).0 o in (w.0, walk_course w.1),
    λ t. (continuable_walk c bs).1 (t.0, course_walk (between c) bs t.1),
  );
  wrong = λ k. (first_stop k, λ r. first_wrong k r.0 r.1);
  code = λ k w. (λ f. let r = first_stop k f.0 in code_rejected c bs k w r.0 r.1 f.1, λ e. (first_wrong k w e, rejected_code c bs k w e));
  rejects = λ k w e. let r = rejected_walk (between c) bs k w e in reject_code r.1.0 (get_or bs k 0) w r.1.2;
}
  where
    first_stop : (k : ℕ) → FirstWrong c bs k → (w : ℕ) × (scan_all (between c) bs ≡ rejected_at k w)
    first_stop k f = stop_rejected (between c) bs k (f.0, (continuable_walk c (take k bs)).0 f.1, λ t. f.2 ((continuable_walk c (take (suc k) bs)).1 t))

    first_wrong : (k w : ℕ) → scan_all (between c) bs ≡ rejected_at k w → FirstWrong c bs k
    first_wrong k w e =
        let f = rejected_stop (between c) bs k w e in
        (f.0, (continuable_walk c (take k bs)).1 f.1, λ t. f.2 ((continuable_walk c (take (suc k) bs)).0 t))
