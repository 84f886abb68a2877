-- Demand 3, for every machine that follows the scanner. Assumes nothing.
use Prim.Native.Nat.{ℕ, zero, suc, ◌<◌}
use mathlib.Core.Path.{◌≡◌, refl, sym, ◌∙◌, ap, subst}
use mathlib.Core.Bool.{Bool, true, false, ◌||◌, true≢false}
use mathlib.Core.List.{List, [], ◌∷◌}
use native.Mathlib.Omega.{arith}
use lib.ListN.{get_or}
use Rattle.codes.specs.Codes.{any_rejecting}
use Rattle.grammar.specs.Grammar.{Context}
use Rattle.std.specs.Prelude.{Result, Ok, Err}
use Rattle.grammar.specs.Scanner.{Scanner, between, scan, Course, through, rejected_at, later, resume, scan_all}
use Rattle.grammar.specs.Verdict.{FirstWrong}
use Rattle.grammar.specs.Machines.{Machine, Call, NotRefused, not_refused, final, bytes, told, was_rejected, NoneRejected, FirstRejected, ReturnedAt, Demand3}
use Rattle.grammar.proofs.Follows.{Agree, Follows, along}
use Rattle.grammar.proofs.Divisions.{one_division}
use Rattle.grammar.proofs.Decides.{decides, reject_code}

clash {ℓ} : {A : Type ℓ} {b : Bool} → b ≡ true → b ≡ false → A
clash p q = absurd (true≢false (sym p ∙ q))

one_first : (cs : List (List ℕ)) (k j : ℕ) → FirstRejected cs k → FirstRejected cs j → k ≡ j
one_first cs k j p q =
    let l : ¬ (k < j) = λ h. clash p.0 (q.1 k h) in
    let m : ¬ (j < k) = λ h. clash q.0 (p.1 j h) in
    omega arith

module _ (M : Machine) (view : M.State → Scanner) (F : Follows M view) where
  -- the scanner's course over the bytes of the calls not refused, the codes told, and the view at the end
  Traced : Course → List (List ℕ) → Scanner → Type 0
  Traced (through h) cs v = NoneRejected cs × (v ≡ h)
  Traced (rejected_at k w) cs v = FirstRejected cs k × ReturnedAt cs k w

  traced_later : (o : Course) (cs : List (List ℕ)) (ws : List ℕ) (v : Scanner) → any_rejecting ws ≡ false → Traced o cs v → Traced (later o) (ws ∷ cs) v
  unfolding Traced
  traced_later (through h) cs ws v e t = (λ j. here j, t.1)
    where
      here : (j : ℕ) → was_rejected (ws ∷ cs) j ≡ false
      here zero = e
      here (suc j) = t.0 j
  traced_later (rejected_at k w) cs ws v e t = ((t.0.0, here), t.1)
    where
      here : (j : ℕ) → j < suc k → was_rejected (ws ∷ cs) j ≡ false
      here zero h = e
      here (suc j) h = t.0.1 j (omega arith)

  traced_byte : (v w u : Scanner) (t : NotRefused M) (ts : List (NotRefused M)) → Agree (scan v t.byte) t.codes v w → Traced (scan_all w (bytes M ts)) (told M ts) u
      → Traced (scan_all v (bytes M (t ∷ ts))) (told M (t ∷ ts)) u
  unfolding Traced
  traced_byte v w u t ts a r = go (scan v t.byte) refl a
    where
      go : (o : Result Scanner ℕ) → scan v t.byte ≡ o → Agree o t.codes v w → Traced (resume o (λ (h : Scanner). scan_all h (bytes M ts))) (t.codes ∷ told M ts) u
      go (Ok h) q a = traced_later (scan_all h (bytes M ts)) (told M ts) t.codes u a.0 (subst (λ (i : Scanner). Traced (scan_all i (bytes M ts)) (told M ts) u) a.1 r)
      go (Err x) q a = ((ap any_rejecting a.0 ∙ ap (λ (y : Bool). y || false) (reject_code v t.byte x q), λ j h. absurd (omega arith)), a.0)

  traced : (s : M.State) → M.Good s → (ks : List (Call M)) → Traced (scan_all (view s) (bytes M (not_refused M s ks))) (told M (not_refused M s ks)) (view (final M s ks))
  unfolding Traced
  traced s g ks = along M view F (λ v ts u. Traced (scan_all v (bytes M ts)) (told M ts) u) (λ v. (λ j. refl, refl)) traced_byte s g ks

  -- a start that waits for nothing is seen between items
  pub seen_between : (s : M.State) → M.Idle s → view s ≡ between (M.context s)
  seen_between s i = λ x. record { context = F.viewed s x; place = (F.idle s).0 i x }

  traced_start : (s : M.State) → M.Good s → M.Idle s → (ks : List (Call M)) → Traced (scan_all (between (M.context s)) (bytes M (not_refused M s ks))) (told M (not_refused M s ks)) (view (final M s ks))
  traced_start s g i ks =
      subst (λ (h : Scanner). Traced (scan_all h (bytes M (not_refused M s ks))) (told M (not_refused M s ks)) (view (final M s ks))) (seen_between s i) (traced s g ks)

  pub demand_3 : (s : M.State) → M.Good s → M.Idle s → (ks : List (Call M)) → Demand3 M s ks
  unfolding Traced
  demand_3 s g i ks = go (scan_all (between c) bs) refl (traced_start s g i ks)
    where
      c : Context
      c = M.context s

      bs : List ℕ
      bs = bytes M (not_refused M s ks)

      cs : List (List ℕ)
      cs = told M (not_refused M s ks)

      v : Scanner
      v = view (final M s ks)

      never : {A : Type 0} {h : Scanner} {k w : ℕ} → scan_all (between c) bs ≡ through h → scan_all (between c) bs ≡ rejected_at k w → A
      never p q = let z : ◌≡◌ {A = ℕ} 0 1 = cc in absurd (omega arith)

      go : (o : Course) → scan_all (between c) bs ≡ o → Traced o cs v → Demand3 M s ks
      go (through h) e t = record {
        none_rejected = (λ n. (decides c bs).continuable.1 (h, e), λ o. t.0);
        first_rejected = λ k. (λ f. clash f.0 (t.0 k), λ f. never e (((decides c bs).wrong k).0 f).1);
        first_code = λ k w. (λ f. clash f.0.0 (t.0 k), λ f. never e (((decides c bs).code k w).0 f));
        waits_for_nothing = (
          λ p. (decides c bs).orderly.1 (h.context, e ∙ (λ x. through (record { context = h.context; place = (ap (λ (y : Scanner). y.place) (sym t.1) ∙ (F.idle (final M s ks)).0 p.0) x }))),
          λ o. let w = (decides c bs).orderly.0 o in
              let q : h ≡ between w.0 = cc (e, w.1) in
              ((F.idle (final M s ks)).1 (ap (λ (y : Scanner). y.place) (t.1 ∙ q)), t.0),
        );
        divided_once = one_division c bs;
      }
      go (rejected_at k w) e t = record {
        none_rejected = (λ n. clash t.0.0 (n k), λ o. never ((decides c bs).continuable.0 o).1 e);
        first_rejected = λ j. (
          λ f. subst (FirstWrong c bs) (one_first cs k j t.0 f) (((decides c bs).wrong k).1 (w, e)),
          λ f. let r = ((decides c bs).wrong j).0 f in
              let q : k ≡ j = cc (e, r.1) in
              subst (FirstRejected cs) q t.0,
        );
        first_code = λ j x. (
          λ f. let q = one_first cs k j t.0 f.0 in
              let y : w ≡ x = cc (t.1, f.1, q) in
              ((decides c bs).code j x).1 (e ∙ (λ i. rejected_at (q i) (y i))),
          λ f. let r = ((decides c bs).code j x).0 f in
              let q : k ≡ j = cc (e, r) in
              let y : w ≡ x = cc (e, r) in
              (subst (FirstRejected cs) q t.0, (λ i. get_or cs (sym q i) []) ∙ t.1 ∙ ap (λ (z : ℕ). z ∷ []) y),
        );
        waits_for_nothing = (λ p. clash t.0.0 (p.1 k), λ o. never ((decides c bs).orderly.0 o).1 e);
        divided_once = one_division c bs;
      }
