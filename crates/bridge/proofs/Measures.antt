-- What is measured by deciding, sensing, receiving and responding is the event's effect. Assumes nothing.
use Prim.Native.Nat.{ℕ, ◌*◌, ◌<◌, ◌≤◌}
use mathlib.Core.Path.{◌≡◌, refl, sym, ap, ◌∙◌, subst⁻¹}
use mathlib.Core.Bool.{Bool}
use mathlib.Core.List.{List}
use lib.ListN.{length}
use Rattle.wire.specs.Action.{Action, bytes_of}
use Rattle.wire.proofs.Actions.{bytes_length}
use Rattle.packet.specs.Packet.{width}
use Rattle.registers.specs.Registers.{with_drop, with_received}
use Rattle.registers.specs.Ranges.{InRange}
use Rattle.registers.specs.declared.State.{State}
use Rattle.registers.specs.declared.Event.{Event}
use Rattle.signals.specs.Waveforms.{wave_of}
use Rattle.signals.specs.Sensed.{sense_of}
use Rattle.signals.specs.declared.Sensed.{Sensed}
use Rattle.decisions.specs.Said.{codes_of}
use Rattle.decisions.specs.Changes.{changed}
use Rattle.decisions.specs.Effects.{said_of, effect_from}
use Rattle.decisions.specs.declared.Decision.{Decision}
use Rattle.decisions.specs.Events.{decision_of, drop_after, drop_marked, effect_of}
use Rattle.decisions.proofs.Changes.{change_marked}
use Rattle.decisions.proofs.Keeps.{decision_keeps}
use Rattle.effects.specs.Replies.{reply_bytes, Response, response, response_of}
use Rattle.effects.specs.Returning.{ReturnedBy}
use Rattle.effects.specs.declared.Returned.{Returned}
use Rattle.effects.specs.declared.Responded.{Responded}
use Rattle.bridge.specs.Measuring.{Measured, MeasuredAs}

module _ (s : State) (e : Event) (ss : List ℕ) (m : ℕ) (n : InRange s) where
  -- the state that the event's decision changes, with the drop marked
  abbrev after : State
  after = changed (drop_marked s e) (decision_of s e).change

  -- what is decided, applied and marked is that state
  pub applied : (d : Decision) {t : State} {pending : Bool} → d ≡ decision_of s e → t ≡ changed s d.change → pending ≡ drop_after s.wait e → with_drop t pending ≡ after
  applied d {t} {pending} q r u =
      let x = (decision_of s e).change in
      ap (λ (c : State). with_drop c pending) (r ∙ ap (λ (b : Decision). changed s b.change) q) ∙ ap (with_drop (changed s x)) u ∙ sym (change_marked s (drop_after s.wait e) x)

  pub applied_small : {t : State} → t ≡ after → t.page.size < width
  applied_small q = subst⁻¹ (λ (t : State). t.page.size < width) q (decision_keeps s n e).page.size_register

  abbrev measured_of : Decision → State → Sensed → Responded → Returned → ℕ → Measured
  measured_of d c x t y k = record { page = c.page; wave = d.wave; used = x.used; bytes = x.bytes; state = t.state; returned = y; reply = t.reply; size = k }

  -- the response to a decision and what was sensed
  abbrev responds : Decision → State → Sensed → Response
  responds d c x = response_of (with_received c x.packet) (said_of (with_received c x.packet) x.byte d.answer)

  abbrev After : Decision → State → Type 0
  After d c = (x : Sensed) → x ≡ sense_of (wave_of c.page d.wave ss m)
      → (q : State) → q ≡ with_received c x.packet
      → (t : Responded) → response t.state (reply_bytes t.state t.reply) ≡ response_of q (said_of q x.byte d.answer)
      → (y : Returned) → ReturnedBy d.answer x.byte y
      → (k : ℕ) → k ≡ length (reply_bytes t.state t.reply) → MeasuredAs s e ss m (measured_of d c x t y k)

  decided : After (decision_of s e) after
  unfolding effect_of effect_from
  decided x ex q eq t et y ey k ek =
      let d = decision_of s e in
      let c = after in
      let g : response t.state (reply_bytes t.state t.reply) ≡ responds d c (sense_of (wave_of c.page d.wave ss m)) =
      et ∙ ap (λ (r : State). response_of r (said_of r x.byte d.answer)) eq ∙ ap (responds d c) ex in
      record {
        used = ap (λ (z : Sensed). z.used) ex;
        bytes = ap (λ (z : Sensed). z.bytes) ex;
        state = ap (λ (z : Response). z.state) g;
        codes = ey (with_received c x.packet) ∙ ap (λ (z : Sensed). codes_of (said_of (with_received c z.packet) z.byte d.answer)) ex;
        replies = ap (λ (z : Response). z.replies) g;
        size = ek ∙ ap (λ (z : Response). length z.replies) g;
        actions = refl;
        page_small = applied_small refl;
        state_small = subst⁻¹ (λ (r : State). r.page.size < width) (ap (λ (z : Response). z.state) g) (applied_small refl);
      }

  pub measured : (d : Decision) (c : State) → d ≡ decision_of s e → c ≡ after → After d c
  measured d c q r = subst⁻¹ (λ (b : Decision). After b c) q (subst⁻¹ (After (decision_of s e)) r decided)

-- what is to be written fits where its measure fits
module _ {s : State} {e : Event} {ss : List ℕ} {m : ℕ} {r : Measured} (p : MeasuredAs s e ss m r) (k : ℕ) where
  pub actions_fit : r.bytes ≤ k → length (bytes_of (wave_of r.page r.wave ss m).actions) ≤ k
  actions_fit h =
      let q : length (bytes_of (wave_of r.page r.wave ss m).actions) ≡ r.bytes = bytes_length (wave_of r.page r.wave ss m).actions ∙ ap (λ (x : List Action). 4 * length x) p.actions ∙ sym p.bytes in
      subst⁻¹ (λ (n : ℕ). n ≤ k) q h

  pub replies_fit : r.size ≤ k → length (reply_bytes r.state r.reply) ≤ k
  replies_fit h =
      let q : length (reply_bytes r.state r.reply) ≡ r.size = ap length p.replies ∙ sym p.size in
      subst⁻¹ (λ (n : ℕ). n ≤ k) q h

-- the size register is in no part that receiving or responding changes
pub received_size : (s : State) (r : List ℕ) {q : State} → q ≡ with_received s r → q.page.size ≡ s.page.size
received_size s r e = ap (λ (q : State). q.page.size) e

pub responded_size : (x : Response) {t : State} {xs : List ℕ} → response t xs ≡ x → t.page.size ≡ x.state.page.size
responded_size x e = ap (λ (z : Response). z.state.page.size) e
