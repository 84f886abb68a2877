-- THEOREM: a stream with line faults leads the bridge where it leads without one. Assumes nothing.
use Prim.Native.Nat.{ℕ, ◌<◌}
use mathlib.Core.Path.{◌≡◌, refl, ap, ◌∙◌}
use mathlib.Core.Bool.{Bool, true, false, cond}
use mathlib.Core.List.{List, [], ◌∷◌}
use Rattle.std.specs.Prelude.{is_err}
use Rattle.registers.specs.Registers.{is_idle}
use Rattle.registers.specs.Ranges.{InRange}
use Rattle.registers.specs.declared.State.{State}
use Rattle.registers.specs.declared.Wait.{Wait}
use Rattle.registers.specs.declared.Wait.TheVariants as v
use Rattle.registers.specs.declared.Event.{Event}
use Rattle.registers.specs.declared.Event.TheVariants as e
use Rattle.decisions.specs.Effects.{Effect}
use Rattle.decisions.specs.Events.{effect_of}
use Rattle.decisions.proofs.Keeps.{event_keeps, event_drop}
use Rattle.grammar.specs.Scanner.{scan}
use Rattle.grammar.specs.Following.{followed, undisturbed, is_between}
use Rattle.grammar.specs.declared.Scanner.{Scanner}
use Rattle.grammar.specs.declared.following.Stream.{Stream}
use Rattle.grammar.proofs.Leads.{agreed}
use Rattle.bridge.specs.Answering.{Bridge, Given, answer_of}
use Rattle.bridge.specs.Streams.{IsEvent, EventCall, after_calls, stream_after, stream_along, StreamFollowed}
use Rattle.bridge.specs.Views.{context_of}
use Rattle.bridge.proofs.View.{place_of, view_of}
use Rattle.bridge.proofs.Agrees.{byte_agrees}
use Rattle.bridge.proofs.Faults.{fault_effect, drop_effect}
use Rattle.bridge.proofs.StepOutcomes.{Went, refused_for, was_accepted, went}

-- the state is seen as the stream stands
record Seen (s : State) (t : Stream) : Type 0 where
  in_range : InRange s
  scanner : view_of s ≡ t.scanner
  drop : s.drop ≡ t.drop

idle_place : (w : Wait) → is_idle w ≡ is_between (place_of w)
idle_place v.Nothing = refl
idle_place (v.One o) = refl
idle_place v.Extended = refl
idle_place (v.Packet left exchange) = refl
idle_place (v.Timings left) = refl

-- A BYTE, dropped or scanned
byte_scanned : (s : State) (x : ℕ) (ss : List ℕ) (m : ℕ) (pending : Bool) → x < 256 → InRange s → s.drop ≡ pending → view_of (effect_of s (e.Byte x) ss m).state ≡ followed (view_of s) (cond pending [] (x ∷ []))
unfolding followed
byte_scanned s x ss m true h n u = ap (λ (y : Effect). view_of y.state) (drop_effect s x ss m u)
byte_scanned s x ss m false h n u = agreed (scan (view_of s) x) _ (view_of s) _ (byte_agrees s x ss m h n u)

-- AN EVENT TAKEN
taken : (s : State) (a : Event) (ss : List ℕ) (m : ℕ) (t : Stream) → IsEvent a → Seen s t → Seen (effect_of s a ss m).state (stream_after t a)
taken s (e.Byte x) ss m t h n = record {
  in_range = event_keeps s (e.Byte x) ss m n.in_range;
  scanner = byte_scanned s x ss m s.drop h n.in_range refl ∙ ap (λ (g : Scanner). followed g (cond s.drop [] (x ∷ []))) n.scanner ∙ ap (λ (p : Bool). followed t.scanner (cond p [] (x ∷ []))) n.drop;
  drop = event_drop s (e.Byte x) ss m;
}
taken s (e.Fault f) ss m t h n = record {
  in_range = event_keeps s (e.Fault f) ss m n.in_range;
  scanner = ap view_of (fault_effect s f ss m) ∙ n.scanner;
  drop = event_drop s (e.Fault f) ss m ∙ idle_place s.wait ∙ ap (λ (g : Scanner). is_between g.place) n.scanner;
}

called : (b : Bridge) (k : EventCall) (t : Stream) (g : Given) → Went b k.event k.lent g → Seen b.state t → Seen g.answer.bridge.state (cond (is_err g.answer.outcome) t (stream_after t k.event))
called b k t g (refused_for r w) n = n
called b k t g (was_accepted m) n = taken b.state k.event k.lent.samples k.lent.sampled t k.is_event n

along : (b : Bridge) (t : Stream) (ks : List EventCall) → Seen b.state t → Seen (after_calls b ks).state (stream_along t b ks)
along b t [] n = n
along b t (k ∷ ks) n =
    let g = answer_of b k.event k.lent in
    along g.answer.bridge (cond (is_err g.answer.outcome) t (stream_after t k.event)) ks (called b k t g (went b k.event k.lent) n)

pub stream_followed : StreamFollowed
stream_followed b n ks =
    let first : Seen b.state (undisturbed (context_of b.state)) = record {
      in_range = n.in_range;
      scanner = ap (λ (w : Wait). record { context = context_of b.state; place = place_of w }) n.waits_for_nothing;
      drop = n.no_drop;
    } in
    let last = along b (undisturbed (context_of b.state)) ks first in
    record { context = ap (λ (g : Scanner). g.context) last.scanner; drop = last.drop }
