-- Each event uses the samples that its actions take, and reads no others: the verb that its waveform carries samples nothing, and an
-- exchange is of a whole register. Assumes nothing.
use Prim.Native.Nat.{ℕ}
use mathlib.Core.Path.{◌≡◌, ap}
use mathlib.Core.Bool.{true, ◌||◌}
use mathlib.Core.List.{List}
use Rattle.codes.proofs.Both.{both_right}
use Rattle.registers.specs.declared.State.{State}
use Rattle.registers.specs.declared.Event.{Event}
use Rattle.signals.specs.Samples.{steady}
use Rattle.signals.proofs.Samples.{wave_takes, wave_same}
use Rattle.decisions.specs.Decisions.{Decision}
use Rattle.decisions.specs.Changes.{changed}
use Rattle.decisions.specs.Effects.{effect_from}
use Rattle.decisions.specs.Events.{decision_of, drop_marked, effect_of}
use Rattle.decisions.specs.Promises.{EventTakes, EventSame}
use Rattle.decisions.proofs.Changes.{change_packet}
use Rattle.decisions.proofs.Keeps.{decision_keeps}
use Rattle.decisions.proofs.Answers.{accepting, short}
use Rattle.decisions.proofs.Sorted.{stays, Sorted, is_proper, coded, coded_and_sent, decision_sorted}

-- its waveform's verb samples nothing
sorted_steady : (d : Decision) → Sorted d → steady d.wave ≡ true
sorted_steady d (is_proper p) = both_right (stays d.change || short d.answer) (steady d.wave) (both_right (accepting d.answer) _ p)
sorted_steady d (coded code q) = ap (λ (x : Decision). steady x.wave) q
sorted_steady d (coded_and_sent code q) = ap (λ (x : Decision). steady x.wave) q

pub event_takes : (s : State) (a : Event) (ss : List ℕ) (m : ℕ) → EventTakes s a ss m
unfolding effect_of effect_from
event_takes s a ss m n z =
    let d = decision_of s a in
    let t = drop_marked s a in
    wave_takes (changed t d.change).page d.wave ss m
    (record { verb = sorted_steady d (decision_sorted s a); bits = (decision_keeps s n a).page.size_register; register = change_packet t d.change z.packet })

pub event_same : (s : State) (a : Event) (ss : List ℕ) (m : ℕ) (us : List ℕ) (k : ℕ) → EventSame s a ss m us k
unfolding effect_of effect_from
event_same s a ss m us k h =
    let d = decision_of s a in
    let t = changed (drop_marked s a) d.change in
    ap (effect_from t d.answer) (wave_same t.page d.wave ss m us k h)
