-- How the scanner's code and the judge's meet their definitions. Assumes nothing.
use Prim.Native.Nat.{ℕ, zero, suc, ◌+◌, ◌-◌, ◌≤◌, ◌<◌}
use mathlib.Core.Path.{◌≡◌, refl, sym, ◌∙◌, ap, subst}
use mathlib.Core.Bool.{Bool, true, false, cond, not, ◌&&◌, true≢false, false≢true}
use mathlib.Core.List.{List}
use native.Mathlib.Omega.{arith}
use native.Mathlib.Decide.{dec_lt}
use borrow.Author.Tests.{eq-eqb}
use lib.Dec.{eqb}
use lib.ListN.{length, get_or, drop, drop_of_length-le}
use lib.Seq.{drop-cons}
use Rattle.grammar.specs.Grammar.{Context, ContextChange, commands, count, context_after}
use Rattle.grammar.specs.WrongCode.{code_for}
use Rattle.std.specs.Prelude.{Result, Ok, Err}
use Rattle.grammar.specs.Scanner.{Place, Extended, Inside, Scanner, Opening, Unknown, Known, Extension, row_of, opening_of, between, going, opened, scan_at, scan, Course, through, rejected_at, later, resume, scan_all}
use Rattle.grammar.specs.Verdict.{Whole, Open, Wrong, at_end, verdict}
use Rattle.grammar.specs.Following.{opening_in, operands_of, operands_in}
use Rattle.grammar.specs.Lookups.{accepts, code_of, change_of}
use Rattle.grammar.proofs.Table.{opening_extension, extension_none}

-- ONE BYTE

pub going_ended : (e : ContextChange) (n b : ℕ) (c d : Context) → n ≡ 0 → d ≡ context_after e b c → between d ≡ going e n b c
going_ended e n b c d q r = ap between r ∙ ap (λ (m : ℕ). going e m b c) (sym q)

pub going_on : (e : ContextChange) (n b : ℕ) (c : Context) → (n ≡ 0 → ⊥) → record { context = c; place = Inside e (n - 1) } ≡ going e n b c
going_on e zero b c h = absurd (h refl)
going_on e (suc n) b c h = let q : suc n - 1 ≡ n = omega arith in ap (λ (m : ℕ). record { context = c; place = Inside e m }) q

pub rejected : (o : Opening) (c : Context) (b w : ℕ) → accepts o c ≡ false → w ≡ code_of o c → Err w ≡ opened o c b
rejected Unknown c b w q e = ap Err e
rejected (Known k) c b w q e =
    ap Err e ∙ sym (ap (λ (t : Bool). cond t (Ok (going k.change (count k.operands c) b c)) (Err (code_for k.needs c))) q)
rejected Extension c b w q e = absurd (true≢false q)

pub accepted : (o : Opening) (c : Context) (b n : ℕ) (e : ContextChange) → accepts o c ≡ true → (o ≡ Extension → ⊥) → n ≡ operands_of o c → e ≡ change_of o → Ok (going e n b c) ≡ opened o c b
accepted Unknown c b n e q x m r = absurd (false≢true q)
accepted (Known k) c b n e q x m r =
    rw (m, r) (sym (ap (λ (t : Bool). cond t (Ok (going k.change (count k.operands c) b c)) (Err (code_for k.needs c))) q))
accepted Extension c b n e q x m r = absurd (x refl)

-- 1D between items, and nothing else, opens an extension
pub opens : (b : ℕ) (x : Bool) (c : Context) → eqb b 0x1D && not x ≡ true → Ok (record { context = c; place = Extended }) ≡ opened (opening_in b x) c b
unfolding opening_of
opens b true c h = go (eqb b 0x1D) h
  where
    go : (t : Bool) → t && false ≡ true → Ok (record { context = c; place = Extended }) ≡ opened (opening_in b true) c b
    go true p = absurd (false≢true p)
    go false p = absurd (false≢true p)
opens b false c h = go (eqb b 0x1D) h
  where
    go : (t : Bool) → t && true ≡ true → Ok (record { context = c; place = Extended }) ≡ opened (cond t Extension (row_of b commands)) c b
    go true p = refl
    go false p = absurd (false≢true p)

pub opens_none : (b : ℕ) (x : Bool) → eqb b 0x1D && not x ≡ false → opening_in b x ≡ Extension → ⊥
opens_none b true h e = extension_none b e
opens_none b false h e = let q = eq-eqb b 0x1D (opening_extension b e) in true≢false (rw q at h)

-- at a place that is known
pub scan_at_lem : (g : Scanner) (b : ℕ) (p : Place) (r : Result Scanner ℕ) → g.place ≡ p → r ≡ scan_at p g.context b → r ≡ scan g b
scan_at_lem g b p r q e = e ∙ ap (λ (x : Place). scan_at x g.context b) (sym q)

-- where an item may begin, and after 1D
abbrev pub standing : Context → Bool → Scanner
standing c true = record { context = c; place = Extended }
standing c false = between c

scan_standing : (c : Context) (b : ℕ) (x : Bool) → opened (opening_in b x) c b ≡ scan (standing c x) b
scan_standing c b true = refl
scan_standing c b false = refl

-- THE JUDGE'S LOOP

abbrev latest : ℕ → Course → Course
latest zero o = o
latest (suc i) o = latest i (later o)

latest_through : (i : ℕ) (g : Scanner) → latest i (through g) ≡ through g
latest_through zero g = refl
latest_through (suc i) g = latest_through i g

latest_rejected : (i k w : ℕ) → latest i (rejected_at k w) ≡ rejected_at (i + k) w
latest_rejected zero k w = let q : k ≡ 0 + k = omega arith in ap (λ (n : ℕ). rejected_at n w) q
latest_rejected (suc i) k w = let q : i + suc k ≡ suc i + k = omega arith in latest_rejected i (suc k) w ∙ ap (λ (n : ℕ). rejected_at n w) q

-- the scanner's course, where i bytes have been read
abbrev pub ReadTo : List ℕ → Scanner → Scanner → ℕ → Type 0
ReadTo bs g₀ g i = scan_all g₀ bs ≡ latest i (scan_all g (drop i bs))

read_next : (bs : List ℕ) (g₀ g h : Scanner) (i : ℕ) → i < length bs → Ok h ≡ scan g (get_or bs i 0) → ReadTo bs g₀ g i → ReadTo bs g₀ h (i + 1)
read_next bs g₀ g h i l e q =
    let n : suc i ≡ i + 1 = omega arith in
    q
    ∙ ap (λ (x : List ℕ). latest i (scan_all g x)) (drop-cons bs i 0 l)
    ∙ ap (λ (x : Result Scanner ℕ). latest i (resume x (λ (h : Scanner). scan_all h (drop (suc i) bs)))) (sym e)
    ∙ ap (λ (x : ℕ). latest x (scan_all h (drop x bs))) n

read_wrong : (bs : List ℕ) (g₀ g : Scanner) (i w : ℕ) → i < length bs → Err w ≡ scan g (get_or bs i 0) → ReadTo bs g₀ g i → Wrong i w ≡ verdict (scan_all g₀ bs)
read_wrong bs g₀ g i w l e q =
    let n : i + 0 ≡ i = omega arith in
    sym
    (ap verdict
    (q
    ∙ ap (λ (x : List ℕ). latest i (scan_all g x)) (drop-cons bs i 0 l)
    ∙ ap (λ (x : Result Scanner ℕ). latest i (resume x (λ (h : Scanner). scan_all h (drop (suc i) bs)))) (sym e)
    ∙ latest_rejected i 0 w)
    ∙ ap (λ (k : ℕ). Wrong k w) n)

read_end : (bs : List ℕ) (g₀ g : Scanner) (i : ℕ) → length bs ≤ i → ReadTo bs g₀ g i → at_end g.place ≡ verdict (scan_all g₀ bs)
read_end bs g₀ g i l q =
    sym (ap verdict (q ∙ ap (λ (x : List ℕ). latest i (scan_all g x)) (drop_of_length-le bs l) ∙ latest_through i g))

-- THE OPERANDS OF AN ITEM: all of them are there, or the bytes end inside it

read_operands : (bs : List ℕ) (g₀ : Scanner) (e : ContextChange) (n b : ℕ) (c : Context) (i : ℕ) → i + n < length bs → b ≡ get_or bs i 0 → ReadTo bs g₀ (going e n b c) (i + 1)
    → ReadTo bs g₀ (between (context_after e (get_or bs (i + n) 0) c)) (i + n + 1)
read_operands bs g₀ e zero b c i l q r =
    let z : i + 0 ≡ i = omega arith in
    rw (z, ← q) r
read_operands bs g₀ e (suc n) b c i l q r =
    let z : i + suc n ≡ i + 1 + n = omega arith in
    rw z (read_operands bs g₀ e n (get_or bs (i + 1) 0) c (i + 1) (omega arith) refl (read_next bs g₀ _ _ (i + 1) (omega arith) refl r))

read_short : (bs : List ℕ) (g₀ : Scanner) (e : ContextChange) (n b : ℕ) (c : Context) (i : ℕ) → i < length bs → length bs ≤ i + n → ReadTo bs g₀ (going e n b c) (i + 1)
    → Open ≡ verdict (scan_all g₀ bs)
read_short bs g₀ e zero b c i l s r = absurd (omega arith)
read_short bs g₀ e (suc n) b c i l s r = go (dec_lt (i + 1) (length bs)) (read_short bs g₀ e n (get_or bs (i + 1) 0) c (i + 1))
  where
    go : Dec (i + 1 < length bs) → (i + 1 < length bs → length bs ≤ i + 1 + n → ReadTo bs g₀ (going e n (get_or bs (i + 1) 0) c) (i + 1 + 1) → Open ≡ verdict (scan_all g₀ bs)) → Open ≡ verdict (scan_all g₀ bs)
    go (yes m) f = f m (omega arith) (read_next bs g₀ _ _ (i + 1) m refl r)
    go (no m) f = read_end bs g₀ _ (i + 1) (omega arith) r

-- THE TURNS OF THE JUDGE'S LOOP, with i bytes read and the byte b at hand

module _ (bs : List ℕ) (g₀ : Scanner) (c : Context) (b : ℕ) (x : Bool) (i : ℕ) (l : i < length bs) (at : b ≡ get_or bs i 0) (r : ReadTo bs g₀ (standing c x) i) where
  here : {s : Result Scanner ℕ} → s ≡ opened (opening_in b x) c b → s ≡ scan (standing c x) (get_or bs i 0)
  here e = e ∙ scan_standing c b x ∙ ap (scan (standing c x)) at

  pub turn_wrong : accepts (opening_in b x) c ≡ false → (w : ℕ) → w ≡ code_of (opening_in b x) c → Wrong i w ≡ verdict (scan_all g₀ bs)
  turn_wrong q w e = read_wrong bs g₀ _ i w l (here (rejected (opening_in b x) c b w q e)) r

  pub turn_extension : eqb b 0x1D && not x ≡ true → ReadTo bs g₀ (standing c true) (i + 1)
  turn_extension q = read_next bs g₀ _ _ i l (here (opens b x c q)) r

  entered : (n : ℕ) (e : ContextChange) → accepts (opening_in b x) c ≡ true → eqb b 0x1D && not x ≡ false → n ≡ operands_in c b x → e ≡ change_of (opening_in b x) → ReadTo bs g₀ (going e n b c) (i + 1)
  entered n e q h m f = read_next bs g₀ _ _ i l (here (accepted (opening_in b x) c b n e q (opens_none b x h) m f)) r

  pub turn_open : (n : ℕ) → accepts (opening_in b x) c ≡ true → eqb b 0x1D && not x ≡ false → n ≡ operands_in c b x → length bs ≤ i + n → Open ≡ verdict (scan_all g₀ bs)
  turn_open n q h m s = read_short bs g₀ (change_of (opening_in b x)) n b c i l s (entered n (change_of (opening_in b x)) q h m refl)

  pub turn_item : (n : ℕ) (e : ContextChange) (d : Context) → accepts (opening_in b x) c ≡ true → eqb b 0x1D && not x ≡ false → n ≡ operands_in c b x → e ≡ change_of (opening_in b x)
      → i + n < length bs → d ≡ context_after e (get_or bs (i + n) 0) c → ReadTo bs g₀ (standing d false) (i + (n + 1))
  turn_item n e d q h m f s a =
      let z : i + (n + 1) ≡ i + n + 1 = omega arith in
      rw (z, a) (read_operands bs g₀ e n b c i s at (entered n e q h m f))

pub turn_end : (bs : List ℕ) (g₀ : Scanner) (c : Context) (x t : Bool) (i : ℕ) → length bs ≤ i → x ≡ t → ReadTo bs g₀ (standing c x) i → cond t Open Whole ≡ verdict (scan_all g₀ bs)
turn_end bs g₀ c x t i l e r = go t (subst (λ (y : Bool). ReadTo bs g₀ (standing c y) i) e r)
  where
    go : (y : Bool) → ReadTo bs g₀ (standing c y) i → cond y Open Whole ≡ verdict (scan_all g₀ bs)
    go true q = read_end bs g₀ _ i l q
    go false q = read_end bs g₀ _ i l q
