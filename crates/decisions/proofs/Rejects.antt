-- A rejected byte returns one code, which ERROR holds then, changes nothing else of the state and moves no pin. Assumes nothing.
use Prim.Native.Nat.{ℕ}
use mathlib.Core.Path.{◌≡◌, refl, sym, ◌∙◌, subst}
use mathlib.Core.Bool.{Bool, true, false, cond, ◌||◌, true≢false, false≢true}
use mathlib.Core.List.{List}
use Rattle.codes.specs.Codes.{rejecting}
use Rattle.codes.proofs.Both.{both_left}
use Rattle.registers.specs.declared.State.{State}
use Rattle.registers.specs.Registers.{with_received, with_drop}
use Rattle.registers.specs.declared.Fault.TheVariants as f
use Rattle.registers.specs.declared.Event.{Event}
use Rattle.registers.specs.declared.Event.TheVariants as e
use Rattle.signals.specs.Waveforms.{wave_of}
use Rattle.decisions.specs.Changes.{changed}
use Rattle.decisions.specs.Said.{error_after, codes_of, is_rejected}
use Rattle.decisions.specs.Decisions.{Decision, ReturnsAndSends, returns, sends, dropped}
use Rattle.decisions.specs.Effects.{effect_from, carried_out}
use Rattle.decisions.specs.Events.{byte_decision, effect_of}
use Rattle.decisions.specs.Promises.{OnlyError, Rejects}
use Rattle.decisions.proofs.Answers.{accepting, accepting_said}
use Rattle.decisions.proofs.Changes.{drop_same}
use Rattle.decisions.proofs.Sorted.{Sorted, is_proper, coded, coded_and_sent, byte_sorted}

or_true : (t : Bool) → t || false ≡ true → t ≡ true
or_true true h = refl
or_true false h = h

module _ (s : State) (ss : List ℕ) (m : ℕ) where
  abbrev Only : Decision → Type 0
  Only d = is_rejected (carried_out s d ss m).said ≡ true → OnlyError s (carried_out s d ss m)

  returned_only : (code : ℕ) → Only (returns code)
  unfolding effect_from wave_of error_after codes_of
  returned_only code h = record { code = code; returned = refl; rejects = or_true (rejecting code) h; state = refl; actions = refl; used = refl }

  sent_only : (code : ℕ) → Only (sends (ReturnsAndSends code))
  unfolding effect_from wave_of error_after codes_of
  sent_only code h = record { code = code; returned = refl; rejects = or_true (rejecting code) h; state = refl; actions = refl; used = refl }

  only_error : (d : Decision) → Sorted d → Only d
  unfolding effect_from
  only_error d (is_proper p) h = absurd (true≢false (sym h ∙ accepting_said (with_received (changed s d.change) (wave_of (changed s d.change).page d.wave ss m).packet) (wave_of (changed s d.change).page d.wave ss m).byte d.answer (both_left (accepting d.answer) _ p)))
  only_error d (coded code q) h = subst Only (sym q) (returned_only code) h
  only_error d (coded_and_sent code q) h = subst Only (sym q) (sent_only code) h

-- a byte that is dropped is not rejected
byte_only : (s : State) (b : ℕ) (ss : List ℕ) (m : ℕ) (pending : Bool) → s.drop ≡ pending →
    let x = carried_out (with_drop s false) (cond pending dropped (byte_decision s s.wait b)) ss m in
    is_rejected x.said ≡ true → OnlyError s x
unfolding effect_from codes_of
byte_only s b ss m true u h = absurd (false≢true h)
byte_only s b ss m false u h =
    let d = byte_decision s s.wait b in
    subst (λ (t : State). OnlyError t (carried_out (with_drop s false) d ss m)) (drop_same s u) (only_error (with_drop s false) ss m d (byte_sorted s s.wait b) h)

-- .. and a fault's code rejects nothing
pub event_rejects : (s : State) (a : Event) (ss : List ℕ) (m : ℕ) → Rejects s a ss m
unfolding effect_of effect_from codes_of
event_rejects s (e.Byte b) ss m h = byte_only s b ss m s.drop refl h
event_rejects s (e.Fault f.Frame) ss m h = absurd (false≢true h)
event_rejects s (e.Fault f.Overrun) ss m h = absurd (false≢true h)
event_rejects s (e.Fault f.Parity) ss m h = absurd (false≢true h)
