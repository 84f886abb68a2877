-- What a decision must be to agree with the scanner, whatever the samples; and so for each kind of row. Assumes nothing.
use Prim.Native.Nat.{ℕ}
use mathlib.Core.Path.{◌≡◌, refl, sym, subst}
use mathlib.Core.Bool.{Bool, true, false, not, cond, ◌&&◌}
use mathlib.Core.List.{List, [], ◌∷◌}
use lib.Dec.{eqb}
use Rattle.codes.proofs.Lookup.{either}
use Rattle.grammar.specs.Grammar.{Needs, Operands, legal, count}
use Rattle.grammar.specs.WrongCode.{code_for}
use Rattle.std.specs.Prelude.{Option, Some, None, Result, Ok, Err, ⊤}
use Rattle.grammar.specs.Scanner.{Opening, going, opened}
use Rattle.grammar.specs.declared.Scanner.{Scanner}
use Rattle.grammar.specs.declared.ContextChange.{ContextChange}
use Rattle.grammar.proofs.Follows.{Agree}
use Rattle.registers.specs.declared.State.{State}
use Rattle.decisions.specs.Said.{codes_of}
use Rattle.commands.specs.declared.Command.{Command}
use Rattle.decisions.specs.Decisions.{returns, sends}
use Rattle.decisions.specs.declared.Decision.{Decision}
use Rattle.decisions.specs.declared.Answer.TheVariants.{ReturnsAndSends}
use Rattle.commands.specs.Legality.{legality_of}
use Rattle.decisions.specs.Rejections.{reads_configuration, rejected_clause}
use Rattle.registers.specs.Registers.{with_received}
use Rattle.signals.specs.Waveforms.{wave_of}
use Rattle.decisions.specs.Changes.{changed}
use Rattle.decisions.specs.Effects.{said_of, effect_from, carried_out}
use Rattle.decisions.specs.Events.{clause_of, command_decided, command_decision}
use Rattle.decisions.proofs.Answers.{accepting, accepting_said}
use Rattle.bridge.specs.Views.{context_of}
use Rattle.bridge.proofs.View.{view_of}
use Rattle.bridge.proofs.Openings.{row}

-- A DECISION AGREES: what the answer says may read any state and any byte
abbrev pub DecisionAgrees : State → Result Scanner ℕ → Decision → Type 0
DecisionAgrees s (Ok v) d = (accepting d.answer ≡ true) × (view_of (changed s d.change) ≡ v)
DecisionAgrees s (Err w) d = ((r : State) (x : ℕ) → codes_of (said_of r x d.answer) ≡ w ∷ []) × (view_of (changed s d.change) ≡ view_of s)

-- the view does not have what a decision's carrying out adds: a received packet and ERROR
pub carried_agrees : (s : State) (t : Result Scanner ℕ) (d : Decision) (ss : List ℕ) (m : ℕ) → DecisionAgrees s t d → Agree t (codes_of (carried_out s d ss m).said) (view_of s) (view_of (carried_out s d ss m).state)
unfolding effect_from
carried_agrees s (Ok v) d ss m h =
    let t = changed s d.change in
    let w = wave_of t.page d.wave ss m in
    (accepting_said (with_received t w.packet) w.byte d.answer h.0, h.1)
carried_agrees s (Err w) d ss m h =
    let t = changed s d.change in
    let w = wave_of t.page d.wave ss m in
    (h.0 (with_received t w.packet) w.byte, h.1)

module _ (s : State) where
  pub returns_code : (w : ℕ) → DecisionAgrees s (Err w) (returns w)
  unfolding codes_of
  returns_code w = (λ r x. refl, refl)

  sends_code : (w : ℕ) → DecisionAgrees s (Err w) (sends (ReturnsAndSends w))
  unfolding codes_of
  sends_code w = (λ r x. refl, refl)

  rejects_code : (c : Command) (w : ℕ) → DecisionAgrees s (Err w) (rejected_clause c w)
  rejects_code c w = either (DecisionAgrees s (Err w)) (eqb w 0x40 && reads_configuration c) (sends (ReturnsAndSends w)) (returns w) (sends_code w) (returns_code w)

  module _ (b : ℕ) where
    -- A BYTE b WHERE AN ITEM MAY BEGIN, and the decision for it
    abbrev pub Opens : Opening → Decision → Type 0
    Opens o d = DecisionAgrees s (opened o (context_of s) b) d

    -- the decision of a command that is legal
    abbrev pub Goes : Operands → ContextChange → Decision → Type 0
    Goes o e d = DecisionAgrees s (Ok (going e (count o (context_of s)) b (context_of s))) d

    -- LEGALITY AGREES with a row's needs, and so does what the command decides
    abbrev Matches : Command → Needs → Type 0
    Matches c n = legality_of s.page.flags s.page.configured (Some c) ≡ cond (legal n (context_of s)) (Ok tt) (Err (code_for n (context_of s)))

    pub legal_row : (c : Command) (n : Needs) → Matches c n → (o : Operands) (e : ContextChange) → Goes o e (clause_of s c) → Opens (row b n o e) (command_decision s (Some c))
    legal_row c n q o e h = subst (λ (l : Result ⊤ ℕ). Opens (row b n o e) (command_decided s c l)) (sym q) (go (legal n (context_of s)))
      where
        go : (t : Bool) → DecisionAgrees s (cond t (Ok (going e (count o (context_of s)) b (context_of s))) (Err (code_for n (context_of s)))) (command_decided s c (cond t (Ok tt) (Err (code_for n (context_of s)))))
        go true = h
        go false = rejects_code c (code_for n (context_of s))

    -- no byte is rejected but with the code that rejects it
    pub rejected_row : (c : Option Command) (w : ℕ) → legality_of s.page.flags s.page.configured c ≡ Err w → DecisionAgrees s (Err w) (command_decision s c)
    rejected_row (Some c) w q = subst (λ (l : Result ⊤ ℕ). DecisionAgrees s (Err w) (command_decided s c l)) (sym q) (rejects_code c w)
    rejected_row None w q = subst Coded q (returns_code _)
      where
        Coded : Result ⊤ ℕ → Type 0
        Coded (Ok u) = ⊤
        Coded (Err code) = DecisionAgrees s (Err code) (command_decision s None)

-- a flag and the interface that it selects
pub selected_matches : {t u : Bool} → t ≡ u → ◌≡◌ {A = Result ⊤ ℕ} (cond (not t) (Err 0x84) (Ok tt)) (cond u (Ok tt) (Err 0x84))
selected_matches {t} {u} q = subst (λ (z : Bool). ◌≡◌ {A = Result ⊤ ℕ} (cond (not t) (Err 0x84) (Ok tt)) (cond z (Ok tt) (Err 0x84))) q (go t)
  where
    go : (t : Bool) → ◌≡◌ {A = Result ⊤ ℕ} (cond (not t) (Err 0x84) (Ok tt)) (cond t (Ok tt) (Err 0x84))
    go true = refl
    go false = refl

-- .. with a configuration needed: 40 where it is selected and not configured, 84 where it is not selected
pub configured_matches : {t u : Bool} (y : Bool) → t ≡ u → ◌≡◌ {A = Result ⊤ ℕ} (cond (not t) (Err 0x84) (cond (not y) (Err 0x40) (Ok tt))) (cond (u && y) (Ok tt) (Err (cond u 0x40 0x84)))
configured_matches {t} {u} y q = subst (λ (z : Bool). ◌≡◌ {A = Result ⊤ ℕ} (cond (not t) (Err 0x84) (cond (not y) (Err 0x40) (Ok tt))) (cond (z && y) (Ok tt) (Err (cond z 0x40 0x84)))) q (go t y)
  where
    go : (t y : Bool) → ◌≡◌ {A = Result ⊤ ℕ} (cond (not t) (Err 0x84) (cond (not y) (Err 0x40) (Ok tt))) (cond (t && y) (Ok tt) (Err (cond t 0x40 0x84)))
    go true true = refl
    go true false = refl
    go false y = refl
