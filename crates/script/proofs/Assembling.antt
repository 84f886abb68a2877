-- The loop over a script's lines, over plain variables: from its start through a line to its ends. Assumes nothing.
use Prim.Native.Nat.{ℕ, suc, ◌+◌, ◌-◌, ◌≤◌, ◌<◌}
use mathlib.Core.Path.{◌≡◌, refl, sym, ap, ◌∙◌, subst}
use mathlib.Core.List.{List}
use native.Mathlib.Nat.{sub-zero}
use native.Mathlib.Numerals.{add-one}
use native.Mathlib.Omega.{arith}
use borrow.Author.Tests.{le-leb, lt-leb}
use lib.ListN.{length}
use Rattle.grammar.specs.Grammar.{factory_context}
use Rattle.grammar.specs.Following.{undisturbed}
use Rattle.grammar.specs.declared.following.Stream.{Stream}
use Rattle.text.specs.Words.{past, in_line}
use mathlib.Core.Bool.{true, false, false≢true}
use Rattle.std.specs.Prelude.{Ok, Err, is_err}
use Rattle.text.specs.Lists.{Outcome, read, Reads}
use Rattle.text.specs.declared.Assembled.{Assembled}
use Rattle.script.specs.Statements.{Statement, statement_at}
use Rattle.script.specs.Script.{records_of, handed, script_for, script_of}
use Rattle.text.proofs.Loops.{Loop, last_turn, loop_ends, loop_on}

-- at the loop's head, with the text from a place on left and the stream so far standing at g
abbrev pub Assembling : List ℕ → List ℕ → List ℕ → Stream → ℕ → ℕ → Type 0
Assembling t o x g at size = Loop (script_of t (length o)) o 0 (λ n. script_for n t g (length o - size) at) (length t - at) x size

pub assembling_first : (t o : List ℕ) → Assembling t o o (undisturbed factory_context) 0 0
unfolding script_of
assembling_first t o = record { turns = suc (length t); enough = omega arith; reads = λ y r q. rw (sub-zero (length o)) at q; within = omega arith; same = refl }

fine : (w : Outcome) → is_err w ≡ false → w ≡ Ok tt
fine (Ok _) k = refl
fine (Err w) k = absurd (false≢true (sym k))

module _ (t o x : List ℕ) (g : Stream) (at size : ℕ) (v : Assembling t o x g at size) where
  -- the text is read
  pub assembling_end : length t ≤ at → Reads (script_of t (length o)) o 0 x (record { size = size; outcome = Ok tt })
  unfolding script_for
  assembling_end h = loop_ends v (Ok tt) (λ n. rw (le-leb (length t) at h))

  -- a line is read, which says m
  module _ (h : at < length t) (m : Statement) (i : statement_at t g.scanner.context at ≡ m) (y : List ℕ) (a : Assembled) (u : Reads (records_of (length x - size) at m) x size y a) where
    line_read : Reads (records_of (length o - size) at m) x size y a
    line_read = subst (λ (n : ℕ). Reads (records_of (n - size) at m) x size y a) v.same u

    -- .. which is wrong
    pub assembling_wrong : is_err a.outcome ≡ true → Reads (script_of t (length o)) o 0 y a
    unfolding script_for
    assembling_wrong f = go a.outcome refl
      where
        go : (w : Outcome) → a.outcome ≡ w → Reads (script_of t (length o)) o 0 y a
        go (Ok _) e = absurd (false≢true (sym (ap is_err e) ∙ f))
        go (Err w) e =
            let d = line_read in
            last_turn v (read (records_of (length o - size) at m).bytes (Err w)) (λ n. rw (lt-leb (length t) at h, i, sym d.outcome ∙ e)) (record { bytes = d.bytes; size = d.size; outcome = e; within = d.within })

    -- .. or after which the next begins
    pub assembling_on : is_err a.outcome ≡ false → (f : Stream) → f ≡ handed g m → (next : ℕ) → next ≡ past t in_line at → Assembling t o y f (next + 1) a.size
    unfolding script_for
    assembling_on k f j next q =
        let d = line_read in
        let e : a.outcome ≡ Ok tt = fine a.outcome k in
        let xs = (records_of (length o - size) at m).bytes in
        let b : length o - size - length xs ≡ length o - a.size = omega (arith, d.size) in
        let s : suc (past t in_line at) ≡ next + 1 = ap suc (sym q) ∙ sym (add-one next) in
        loop_on v xs (λ n. script_for n t f (length o - a.size) (next + 1)) (length t - (next + 1)) (λ n. rw (lt-leb (length t) at h, i, sym d.outcome ∙ e, b, s, sym j)) (omega (arith, q)) (record { bytes = d.bytes; after = d.size }) (omega (arith, d.within, v.same))
