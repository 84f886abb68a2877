-- Demand 3: the bridge's calls follow the grammar's scanner. Assumes nothing.
use Prim.Native.Nat.{ℕ}
use mathlib.Core.Path.{◌≡◌, refl, sym, ap, subst}
use mathlib.Core.Bool.{true, false, false≢true}
use mathlib.Core.List.{List, [], ◌∷◌}
use native.Mathlib.Omega.{arith}
use Rattle.std.specs.Prelude.{Ok, is_err}
use Rattle.registers.specs.Ranges.{InRange}
use Rattle.registers.specs.declared.Wait.{Wait}
use Rattle.registers.specs.declared.Wait.TheVariants as v
use Rattle.registers.specs.declared.Event.{Event}
use Rattle.registers.specs.declared.Event.TheVariants as e
use Rattle.decisions.proofs.Keeps.{event_keeps, event_drop}
use Rattle.grammar.specs.Scanner.{scan}
use Rattle.grammar.specs.declared.Place.TheVariants.{Between}
use Rattle.grammar.specs.declared.Scanner.{Scanner}
use Rattle.grammar.proofs.Demand3 as grammar
use Rattle.grammar.proofs.Leads.{leads}
use Rattle.grammar.proofs.Verdicts.{first_is_smallest}
use Rattle.grammar.specs.Machines.{FirstRejected, ReturnedAt}
use Rattle.grammar.specs.declared.Verdict.TheVariants.{Wrong}
use Rattle.grammar.proofs.Follows.{Agree, Follows}
use Rattle.bridge.specs.Answering.{Bridge, Lent, Given, effect, accepted, answer_of}
use Rattle.bridge.specs.Demands.{machine, bytes_taken, codes_told, Demand3, NoDropMade, CodeForetold, ContextFollowed}
use Rattle.bridge.specs.Judging.{judgement_of}
use Rattle.bridge.specs.Views.{context_of}
use Rattle.bridge.proofs.Judges.{judge_call}
use Rattle.bridge.proofs.View.{place_of, view_of}
use Rattle.bridge.proofs.Agrees.{byte_agrees}
use Rattle.bridge.proofs.StepOutcomes.{Went, refused_for, was_accepted, went}

abbrev view : Bridge → Scanner
view b = view_of b.state

nothing_between : (w : Wait) → place_of w ≡ Between → w ≡ v.Nothing
nothing_between v.Nothing q = refl
nothing_between (v.One o) q = let z : ◌≡◌ {A = ℕ} 0 1 = cc in absurd (omega arith)
nothing_between v.Extended q = let z : ◌≡◌ {A = ℕ} 0 1 = cc in absurd (omega arith)
nothing_between (v.Packet m x) q = let z : ◌≡◌ {A = ℕ} 0 1 = cc in absurd (omega arith)
nothing_between (v.Timings m) q = let z : ◌≡◌ {A = ℕ} 0 1 = cc in absurd (omega arith)

-- refused, a call returns the bridge that it was given; taken, the event's
kept : (b : Bridge) (a : Event) (l : Lent) (g : Given) → Went b a l g → is_err g.answer.outcome ≡ true → g.answer.bridge ≡ b
kept b a l g (refused_for r w) h = refl
kept b a l g (was_accepted n) h = absurd (false≢true h)

gone : (b : Bridge) (a : Event) (l : Lent) (g : Given) → Went b a l g → is_err g.answer.outcome ≡ false → g ≡ accepted (effect b a l) l
gone b a l g (refused_for r w) h = absurd (false≢true (sym h))
gone b a l g (was_accepted n) h = refl

good : (b : Bridge) (a : Event) (l : Lent) (g : Given) → Went b a l g → InRange b.state → InRange g.answer.bridge.state
good b a l g (refused_for r w) n = n
good b a l g (was_accepted m) n = event_keeps b.state a l.samples l.sampled n

-- a byte leaves no drop where there was none
undropped : (b : Bridge) (x : ℕ) (l : Lent) (g : Given) → Went b (e.Byte x) l g → b.state.drop ≡ false → g.answer.bridge.state.drop ≡ false
undropped b x l g (refused_for r w) u = u
undropped b x l g (was_accepted m) u = event_drop b.state (e.Byte x) l.samples l.sampled

follows : Follows machine view
follows = record {
  viewed = λ b. refl;
  idle = λ b. (λ q. ap place_of q, nothing_between b.state.wait);
  kept = λ b x l. kept b (e.Byte x) l (answer_of b (e.Byte x) l) (went b (e.Byte x) l);
  good = λ b x l h n. (good b (e.Byte x) l (answer_of b (e.Byte x) l) (went b (e.Byte x) l) n.0, undropped b x l (answer_of b (e.Byte x) l) (went b (e.Byte x) l) n.1);
  step = λ b x l h n q.
      subst (λ (g : Given). Agree (scan (view b) x) g.answer.codes (view b) (view_of g.answer.bridge.state))
      (sym (gone b (e.Byte x) l (answer_of b (e.Byte x) l) (went b (e.Byte x) l) q))
      (byte_agrees b.state x l.samples l.sampled h n.0 n.1);
}

pub demand_3 : Demand3
demand_3 b n = grammar.demand_3 machine view follows b (n.in_range, n.no_drop) n.waits_for_nothing

pub no_drop_made : NoDropMade
no_drop_made b u [] = u
no_drop_made b u (k ∷ ks) =
    let g = answer_of b (e.Byte k.byte) k.lent in
    no_drop_made g.answer.bridge (undropped b k.byte k.lent g (went b (e.Byte k.byte) k.lent) u) ks

pub code_foretold : CodeForetold
code_foretold b n ks k w = (told, foretold)
  where
    bs : List ℕ
    bs = bytes_taken b ks

    told : judgement_of b bs ≡ Ok (Wrong k w) → FirstRejected (codes_told b ks) k × ReturnedAt (codes_told b ks) k w
    told e =
        let s = ((judge_call b bs).judged (Wrong k w)).0 e in
        ((demand_3 b n ks).first_code k w).1 ((first_is_smallest (context_of b.state) bs k).1 s.1.0, s.1.1)

    foretold : FirstRejected (codes_told b ks) k × ReturnedAt (codes_told b ks) k w → judgement_of b bs ≡ Ok (Wrong k w)
    foretold f =
        let g = ((demand_3 b n ks).first_code k w).0 f in
        ((judge_call b bs).judged (Wrong k w)).1 (n, ((first_is_smallest (context_of b.state) bs k).0 g.0, g.1))

pub context_followed : ContextFollowed
context_followed b n = leads machine view follows b (n.in_range, n.no_drop) n.waits_for_nothing
