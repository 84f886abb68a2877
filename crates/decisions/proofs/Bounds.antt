-- How many reply bytes an event sends, and that its replies and actions are few. Assumes nothing.
use Prim.Native.Nat.{ℕ, ◌+◌, ◌≤◌, ◌<◌, min}
use mathlib.Core.Path.{◌≡◌, refl, sym, ap, ◌∙◌}
use mathlib.Core.Bool.{Bool, true, false, cond, ◌||◌}
use mathlib.Core.List.{List, ◌∷◌, map}
use native.Mathlib.Omega.{arith}
use lib.ListN.{length}
use Rattle.packet.specs.Packet.{width, register_bytes, packet_bytes, low_bytes}
use Rattle.packet.proofs.Loads.{length_low}
use Rattle.codes.proofs.Both.{both_left, both_right}
use Rattle.registers.specs.Registers.{reports_on, bits_in, with_received, timing_bytes, image_bytes, serial_bytes}
use Rattle.registers.specs.Ranges.{Sized}
use Rattle.registers.specs.declared.State.{State}
use Rattle.registers.specs.declared.Event.{Event}
use Rattle.signals.specs.Waveforms.{wave_of}
use Rattle.signals.proofs.Counts.{wave_few}
use Rattle.signals.proofs.Packets.{wave_packet}
use Rattle.signals.specs.Samples.{steady}
use Rattle.decisions.specs.Said.{returned, sent, replies_of}
use Rattle.decisions.specs.Decisions.{Decision, Change, Answer, Silent, Returns, ReturnsTwice, ReturnsAndSends, Checked, Sends, SendsSample, SendsLevel, SendsEprom, SendsSerial, SendsTimings, SendsPacket, SendsLow, ReturnsThenLow}
use Rattle.decisions.specs.Changes.{changed}
use Rattle.decisions.specs.Effects.{said_of, effect_from}
use Rattle.decisions.specs.Events.{decision_of, drop_marked, effect_of}
use Rattle.decisions.specs.Promises.{most_replies, FewActions, FewReplies}
use Rattle.wire.proofs.Choices.{at_most}
use Rattle.decisions.proofs.Sent.{replies_sent}
use Rattle.decisions.specs.declared.Change.TheVariants as c
use Rattle.decisions.proofs.Changes.{change_packet}
use Rattle.decisions.proofs.Keeps.{decision_keeps}
use Rattle.decisions.proofs.Answers.{accepting, short, one_or_none, short_few}
use Rattle.decisions.proofs.Sorted.{stays, Sorted, is_proper, coded, coded_and_sent, decision_sorted}

-- how many bytes an answer sends, with reports on or off
abbrev reply_count : Bool → State → Answer → ℕ
reply_count reports s Silent = 0
reply_count reports s (Returns k) = cond reports 1 0
reply_count reports s ReturnsTwice = cond reports 2 0
reply_count reports s (ReturnsAndSends k) = 1
reply_count reports s (Checked k) = cond reports 1 0
reply_count reports s (Sends x) = 1
reply_count reports s SendsSample = 1
reply_count reports s SendsLevel = 1
reply_count reports s SendsEprom = image_bytes
reply_count reports s SendsSerial = serial_bytes
reply_count reports s SendsTimings = timing_bytes
reply_count reports s SendsPacket = register_bytes
reply_count reports s SendsLow = packet_bytes (bits_in s.page)
reply_count reports s ReturnsThenLow = cond reports 1 0 + packet_bytes (bits_in s.page)

data_count : (on : Bool) (xs : List ℕ) (n : ℕ) → length xs ≡ n → length (replies_of on (map sent xs)) ≡ n
data_count on xs n e = ap length (replies_sent on xs) ∙ e

coded_count : (on : Bool) (k : ℕ) (xs : List ℕ) (n : ℕ) → length xs ≡ n → length (replies_of on (returned k ∷ map sent xs)) ≡ cond on 1 0 + n
unfolding replies_of
coded_count true k xs n e = let d = data_count true xs n e in omega arith
coded_count false k xs n e = let d = data_count false xs n e in omega arith

module _ (s : State) (z : Sized s) (h : s.page.size < width) where
  low_count : length (low_bytes (bits_in s.page) s.page.packet) ≡ packet_bytes (bits_in s.page)
  low_count =
      let l = length_low register_bytes (bits_in s.page) s.page.packet z.packet in
      let m : min (packet_bytes (bits_in s.page)) register_bytes ≡ packet_bytes (bits_in s.page) = omega arith in
      sym l ∙ m

  reply_count_lem : (on : Bool) (x : ℕ) (a : Answer) → length (replies_of on (said_of s x a)) ≡ reply_count on s a
  unfolding replies_of
  reply_count_lem on x Silent = refl
  reply_count_lem on x (Returns k) = one_or_none on k
  reply_count_lem true x ReturnsTwice = refl
  reply_count_lem false x ReturnsTwice = refl
  reply_count_lem on x (ReturnsAndSends k) = refl
  reply_count_lem on x (Checked k) = one_or_none on _
  reply_count_lem on x (Sends v) = refl
  reply_count_lem on x SendsSample = refl
  reply_count_lem on x SendsLevel = refl
  reply_count_lem on x SendsEprom = data_count on s.shared.eprom image_bytes z.eprom
  reply_count_lem on x SendsSerial = data_count on s.shared.serial serial_bytes z.serial
  reply_count_lem on x SendsTimings = data_count on s.page.timings timing_bytes z.timings
  reply_count_lem on x SendsPacket = data_count on s.page.packet register_bytes z.packet
  reply_count_lem on x SendsLow = data_count on (low_bytes (bits_in s.page) s.page.packet) _ low_count
  reply_count_lem on x ReturnsThenLow = coded_count on 0x00 (low_bytes (bits_in s.page) s.page.packet) _ low_count

  few : (on : Bool) (a : Answer) → reply_count on s a ≤ most_replies
  few on Silent = omega arith
  few on (Returns k) = omega (arith, at_most on 1)
  few on ReturnsTwice = omega (arith, at_most on 2)
  few on (ReturnsAndSends k) = omega arith
  few on (Checked k) = omega (arith, at_most on 1)
  few on (Sends v) = omega arith
  few on SendsSample = omega arith
  few on SendsLevel = omega arith
  few on SendsEprom = omega arith
  few on SendsSerial = omega arith
  few on SendsTimings = omega arith
  few on SendsPacket = omega arith
  few on SendsLow = omega arith
  few on ReturnsThenLow = omega (arith, at_most on 1)

-- THE EVENT

sized_after : (s : State) (r : List ℕ) → Sized s → length r ≡ register_bytes → Sized (with_received s r)
sized_after s r z e = record { eprom = z.eprom; serial = z.serial; packet = e; timings = z.timings }

module _ (s : State) (n : s.page.size < width) (z : Sized s) (on : Bool) (x : ℕ) where
  abbrev Few : Answer → State → List ℕ → Type 0
  Few a t r = length (replies_of on (said_of (with_received t r) x a)) ≤ most_replies

  long_few : (a : Answer) (r : List ℕ) → length r ≡ register_bytes → Few a s r
  long_few a r e =
      let t = with_received s r in
      rw (reply_count_lem t (sized_after s r z e) n on x a) (few t (sized_after s r z e) n on a)

  -- a long answer is of the state as it was
  proper_few : (d : Decision) (y : Change) (r : List ℕ) → d.change ≡ y → stays y || short d.answer ≡ true → length r ≡ register_bytes → Few d.answer (changed s d.change) r
  proper_few d c.Nothing r q h e = rw q (long_few d.answer r e)
  proper_few d c.Reset r q h e = short_few on (with_received (changed s d.change) r) x d.answer h
  proper_few d (c.Select g) r q h e = short_few on (with_received (changed s d.change) r) x d.answer h
  proper_few d c.ClearError r q h e = short_few on (with_received (changed s d.change) r) x d.answer h
  proper_few d c.Save r q h e = short_few on (with_received (changed s d.change) r) x d.answer h
  proper_few d (c.Flags g) r q h e = short_few on (with_received (changed s d.change) r) x d.answer h
  proper_few d (c.Latch b) r q h e = short_few on (with_received (changed s d.change) r) x d.answer h
  proper_few d (c.Await v) r q h e = short_few on (with_received (changed s d.change) r) x d.answer h
  proper_few d c.EndWait r q h e = short_few on (with_received (changed s d.change) r) x d.answer h
  proper_few d (c.Store a b) r q h e = short_few on (with_received (changed s d.change) r) x d.answer h
  proper_few d (c.Cycles b) r q h e = short_few on (with_received (changed s d.change) r) x d.answer h
  proper_few d (c.Config b) r q h e = short_few on (with_received (changed s d.change) r) x d.answer h
  proper_few d (c.Size b) r q h e = short_few on (with_received (changed s d.change) r) x d.answer h
  proper_few d (c.Hold v at b) r q h e = short_few on (with_received (changed s d.change) r) x d.answer h
  proper_few d (c.LoadPacket at b) r q h e = short_few on (with_received (changed s d.change) r) x d.answer h
  proper_few d (c.LoadTimings at b) r q h e = short_few on (with_received (changed s d.change) r) x d.answer h

  sorted_few : (d : Decision) → Sorted d → (r : List ℕ) → length r ≡ register_bytes → Few d.answer (changed s d.change) r
  sorted_few d (is_proper p) r e = proper_few d d.change r refl (both_left (stays d.change || short d.answer) (steady d.wave) (both_right (accepting d.answer) _ p)) e
  sorted_few d (coded k q) r e = short_few on (with_received (changed s d.change) r) x d.answer (ap (λ (b : Decision). short b.answer) q)
  sorted_few d (coded_and_sent k q) r e = short_few on (with_received (changed s d.change) r) x d.answer (ap (λ (b : Decision). short b.answer) q)

pub event_replies : (s : State) (a : Event) (ss : List ℕ) (m : ℕ) → FewReplies s a ss m
unfolding effect_of effect_from
event_replies s a ss m n z =
    let d = decision_of s a in
    let t = drop_marked s a in
    let p = (changed t d.change).page in
    let v = wave_of p d.wave ss m in
    sorted_few t n.page.size_register (record { eprom = z.eprom; serial = z.serial; packet = z.packet; timings = z.timings }) (reports_on p.flags) v.byte d (decision_sorted s a) v.packet (wave_packet p d.wave ss m (change_packet t d.change z.packet))

pub event_actions : (s : State) (a : Event) (ss : List ℕ) (m : ℕ) → FewActions s a ss m
unfolding effect_of effect_from
event_actions s a ss m n =
    let d = decision_of s a in
    wave_few (changed (drop_marked s a) d.change).page d.wave ss m (decision_keeps s n a).page.size_register
