-- What a fault leaves, and what the byte that is dropped leaves; a refused call changes nothing. Assumes nothing.
use Prim.Native.Nat.{ℕ}
use mathlib.Core.Path.{◌≡◌, refl, ap, ◌∙◌}
use mathlib.Core.Bool.{Bool, true, false, cond}
use mathlib.Core.List.{List, [], ◌∷◌}
use Rattle.std.specs.Prelude.{Ok}
use Rattle.wire.specs.Buffer.{overwrite}
use Rattle.registers.specs.Registers.{with_drop, is_idle, fault_code}
use Rattle.registers.specs.declared.State.{State}
use Rattle.registers.specs.declared.Wait.TheVariants as v
use Rattle.registers.specs.declared.Fault.{Fault}
use Rattle.registers.specs.declared.Event.TheVariants as e
use Rattle.registers.proofs.InRange.{idle_is}
use Rattle.signals.specs.Waveforms.{wave_of}
use Rattle.decisions.specs.Said.{error_after, replies_of, codes_of}
use Rattle.decisions.specs.Decisions.{dropped}
use Rattle.decisions.specs.Effects.{Effect, effect_from, carried_out}
use Rattle.decisions.specs.Events.{byte_decision, effect_of}
use Rattle.decisions.proofs.Changes.{drop_same}
use Rattle.bridge.specs.Answering.{Bridge, Lent, Given, given, acceptance, accepted, answer_of}
use Rattle.bridge.specs.Demands.{outcome}
use Rattle.bridge.specs.Views.{context_of}
use Rattle.bridge.specs.Faults.{FaultKeeps, but_error, FaultInside, FaultCall, faulted, faulted_all, AllTaken, last_code, FaultCosts}
use Rattle.bridge.proofs.StepOutcomes.{Went, refused_for, was_accepted, went}
use Rattle.bridge.proofs.Demand2.{demand_2}

pub fault_keeps : (b : Bridge) (f : Fault) (l : Lent) → FaultKeeps b f l
unfolding effect_of effect_from
fault_keeps b f l = let k = go (answer_of b (e.Fault f) l) (went b (e.Fault f) l) in record { context = k.0; wait = k.1 }
  where
    go : (g : Given) → Went b (e.Fault f) l g → (context_of g.answer.bridge.state ≡ context_of b.state) × (g.answer.bridge.state.wait ≡ b.state.wait)
    go g (refused_for r w) = (refl, refl)
    go g (was_accepted n) = (refl, refl)

-- A FAULT TAKEN: its code in ERROR, and a drop if nothing was waited for
pub fault_effect : (s : State) (f : Fault) (ss : List ℕ) (m : ℕ) → (effect_of s (e.Fault f) ss m).state ≡ with_drop (but_error s (fault_code f)) (is_idle s.wait)
unfolding effect_of effect_from wave_of error_after
fault_effect s f ss m = refl

fault_taken : (b : Bridge) (c : FaultCall) {pending : Bool} → is_idle b.state.wait ≡ pending → outcome b (e.Fault c.fault) c.lent ≡ Ok tt → (faulted b c).state ≡ with_drop (but_error b.state (fault_code c.fault)) pending
fault_taken b c i z =
    ap (λ (g : Given). g.answer.bridge.state) ((demand_2 b (e.Fault c.fault) c.lent).gives z) ∙ fault_effect b.state c.fault _ _
    ∙ ap (with_drop (but_error b.state (fault_code c.fault))) i

pub fault_inside : (b : Bridge) (f : Fault) (l : Lent) → FaultInside b f l
fault_inside b f l n inside z = fault_taken b (record { fault = f; lent = l }) idle z ∙ drop_same (but_error b.state (fault_code f)) undropped
  where
    no_idle : (t : Bool) → is_idle b.state.wait ≡ t → t ≡ false
    no_idle true q = absurd (inside (idle_is b.state.wait q))
    no_idle false q = refl

    idle : is_idle b.state.wait ≡ false
    idle = no_idle (is_idle b.state.wait) refl

    no_drop : (t : Bool) → b.state.drop ≡ t → t ≡ false
    no_drop true q = absurd (inside (n.no_drop_beside_a_wait q))
    no_drop false q = refl

    undropped : b.state.drop ≡ false
    undropped = no_drop b.state.drop refl

-- ONE OR SEVERAL: the state is the first's but for ERROR, and one drop is pending
faults_taken : (b : Bridge) (c : FaultCall) (cs : List FaultCall) → b.state.wait ≡ v.Nothing → AllTaken b c cs → (faulted_all b c cs).state ≡ with_drop (but_error b.state (last_code c cs)) true
faults_taken b c [] i z = fault_taken b c (ap is_idle i) z
faults_taken b c (d ∷ ds) i z =
    let q = fault_taken b c (ap is_idle i) z.0 in
    faults_taken (faulted b c) d ds (ap (λ (s : State). s.wait) q ∙ i) z.1 ∙ ap (λ (s : State). with_drop (but_error s (last_code d ds)) true) q

-- A BYTE DROPPED
pub drop_effect : (s : State) (x : ℕ) (ss : List ℕ) (m : ℕ) → s.drop ≡ true → effect_of s (e.Byte x) ss m ≡ record { state = with_drop s false; said = []; actions = []; used = 0 }
unfolding effect_of effect_from wave_of error_after
drop_effect s x ss m u = ap (λ (p : Bool). carried_out (with_drop s false) (cond p dropped (byte_decision s s.wait x)) ss m) u

drop_given : (s : State) (l : Lent) → accepted (record { state = s; said = []; actions = []; used = 0 }) l ≡ given (acceptance s [] 0 0 0) l.actions l.replies
unfolding codes_of replies_of overwrite
drop_given s l = refl

pub fault_costs : (b : Bridge) (c : FaultCall) (cs : List FaultCall) (x : ℕ) (l : Lent) → FaultCosts b c cs x l
fault_costs b c cs x l n zs z =
    let f = faulted_all b c cs in
    let t = but_error b.state (last_code c cs) in
    let q = faults_taken b c cs n.waits_for_nothing zs in
    (demand_2 f (e.Byte x) l).gives z
    ∙ ap (λ (y : Effect). accepted y l) (drop_effect f.state x l.samples l.sampled (ap (λ (s : State). s.drop) q))
    ∙ drop_given (with_drop f.state false) l
    ∙ ap (λ (s : State). given (acceptance s [] 0 0 0) l.actions l.replies) (ap (λ (s : State). with_drop s false) q ∙ drop_same t n.no_drop)
