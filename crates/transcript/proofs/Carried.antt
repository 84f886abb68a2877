-- An event that is measured and then written, as its call answers it. Assumes nothing.
use Prim.Native.Nat.{ℕ, ◌+◌, ◌-◌, ◌*◌, ◌≤◌}
use mathlib.Core.Path.{◌≡◌, refl, sym, ap, subst, ◌∙◌}
use mathlib.Core.Bool.{Bool, true, false, cond}
use mathlib.Core.List.{List, [], ◌∷◌, ◌++◌}
use native.Mathlib.Omega.{arith}
use native.Mathlib.Nat.{zero-add}
use borrow.Author.Tests.{leb-true, eqb-true}
use lib.Dec.{eqb}
use lib.ListN.{length, take, drop, length-append}
use Rattle.wire.specs.Action.{bytes_of}
use Rattle.wire.specs.Buffer.{overwrite, fits_in, Written}
use Rattle.wire.proofs.Actions.{bytes_length}
use Rattle.wire.proofs.Buffers.{overwrite_length, overwrite_none, overwrite_front, written_append, written_after}
use Rattle.registers.specs.Ranges.{state_fits, InRange, Sized}
use Rattle.registers.specs.declared.State.{State}
use Rattle.registers.proofs.InRange.{range_test}
use Rattle.registers.specs.declared.Event.{Event}
use Rattle.signals.specs.Waveforms.{wave_of}
use Rattle.decisions.specs.Effects.{Effect, sent_by}
use Rattle.decisions.specs.Events.{effect_of}
use Rattle.decisions.specs.Promises.{most_actions, most_replies}
use Rattle.decisions.proofs.Bounds.{event_actions, event_replies}
use Rattle.decisions.proofs.Keeps.{event_keeps}
use Rattle.effects.specs.Replies.{reply_bytes}
use Rattle.bridge.specs.Answering.{Given}
use Rattle.bridge.specs.Measuring.{MeasuredAs}
use Rattle.bridge.specs.declared.measuring.Measured.{Measured}
use Rattle.refusals.specs.declared.Refusal.TheVariants.{Samples}
use Rattle.records.specs.Records.{head_of, record_of}
use Rattle.transcript.specs.Transcript.{call_of, unless_empty, output_of, most_output}
use Rattle.transcript.specs.Events.{bridge_of, Headed, EventTaken, EventRefused, Done}
use Rattle.transcript.proofs.CallTests.{accepted_call, call_short, call_accepted}

-- A HEADER PUT IN FRONT of bytes that stand behind room for it makes their record

nothing : (xs : List ℕ) → length xs ≡ 0 → xs ≡ []
nothing [] e = refl
nothing (x ∷ xs) e = absurd (omega arith)

headed : (o : List ℕ) (kind : ℕ) (xs : List ℕ) {x : List ℕ} {n : ℕ} → 4 + length xs ≤ length o → Headed (overwrite o 4 xs) kind (length xs) x n → Written o 0 (unless_empty kind xs) x n
headed o kind xs {x} {n} room h = go (eqb (length xs) 0) refl h.bytes h.after
  where
    go : (t : Bool) → eqb (length xs) 0 ≡ t → x ≡ cond t (overwrite o 4 xs) (overwrite (overwrite o 4 xs) 0 (head_of kind (length xs))) → n ≡ cond t 0 (4 + length xs) → Written o 0 (cond t [] (record_of kind xs)) x n
    go true e b a =
        record { bytes = b ∙ ap (overwrite o 4) (nothing xs (eqb-true (length xs) 0 e)) ∙ overwrite_none o 4 ∙ sym (overwrite_none o 0); after = a }
    go false e b a = record { bytes = b ∙ overwrite_front o 0 (head_of kind (length xs)) xs room; after = omega (arith, a, length-append (head_of kind (length xs)) xs) }

-- .. where a writer put them there and counted them
pub headed_as : (o : List ℕ) (kind : ℕ) {xs ys x : List ℕ} {k n : ℕ} → 4 + length xs ≤ length o → Written (take (length o - 4) (drop 4 o)) 0 xs ys k
    → Headed (take 4 o ++ (ys ++ drop (length o - 4) (drop 4 o))) kind k x n → Written o 0 (unless_empty kind xs) x n
headed_as o kind {xs} {ys} {x} {k} {n} room w h =
    headed o kind xs room
    (subst (λ (m : List ℕ). Headed m kind (length xs) x n) (written_after o 4 w refl)
    (subst (λ (j : ℕ). Headed (take 4 o ++ (ys ++ drop (length o - 4) (drop 4 o))) kind j x n) (w.after ∙ zero-add (length xs)) h))

some_length : (kind : ℕ) (xs : List ℕ) → length (unless_empty kind xs) ≤ 4 + length xs
some_length kind xs = go (eqb (length xs) 0)
  where
    go : (t : Bool) → length (cond t [] (record_of kind xs)) ≤ 4 + length xs
    go true = omega arith
    go false = omega (arith, length-append (head_of kind (length xs)) xs)

-- AN EVENT MEASURED, in a state in range and with room for any event's output
module _ (s : State) (e : Event) (ss o : List ℕ) (n : InRange s) (z : Sized s) (room : most_output ≤ length o) (r : Measured) (p : MeasuredAs s e ss 0 r) where
  abbrev x : Effect
  x = effect_of s e ss 0

  abbrev acts : List ℕ
  acts = bytes_of (wave_of r.page r.wave ss 0).actions

  abbrev says : List ℕ
  says = reply_bytes r.state r.reply

  acts_as : acts ≡ bytes_of x.actions
  acts_as = ap bytes_of p.actions

  acts_few : length acts ≤ 4 * most_actions
  acts_few = omega (arith, ap length acts_as, bytes_length x.actions, event_actions s e ss 0 n)

  says_few : r.size ≤ most_replies
  says_few = omega (arith, p.size, event_replies s e ss 0 n z)

  good : state_fits s ≡ true
  good = (range_test s).1 n

  fits_as : (t : Bool) → fits_in (length ss) 0 r.used ≡ t → fits_in (length ss) 0 x.used ≡ t
  fits_as t h = subst (λ (k : ℕ). fits_in (length ss) 0 k ≡ t) p.used h

  -- without samples enough the call is refused
  pub event_refused : fits_in (length ss) 0 r.used ≡ false → EventRefused (call_of (bridge_of s) e ss) o o Samples
  event_refused h = record { outcome = ap (λ (g : Given). g.answer.outcome) (call_short (bridge_of s) e ss good (fits_as false h)); same = refl }

  pub samples_few : fits_in (length ss) 0 r.used ≡ true → r.used ≤ length ss
  samples_few h = omega (arith, leb-true (0 + r.used) (length ss) h)

  -- what is written fits
  pub actions_fit : 4 + length acts ≤ length o
  actions_fit = omega (arith, acts_few)

  pub says_size : r.size ≡ length says
  says_size = p.size ∙ sym (ap length p.replies)

  module _ {o₂ : List ℕ} {at : ℕ} (a : Written o 0 (unless_empty 0x0102 acts) o₂ at) where
    pub replies_fit : at + 4 + r.size ≤ length o₂
    replies_fit = omega (arith, a.after, some_length 0x0102 acts, acts_few, says_few, ap length a.bytes ∙ overwrite_length o 0 (unless_empty 0x0102 acts))

    -- both records written: the call is answered
    module _ {o₃ : List ℕ} {w : ℕ} (b : Written o₂ at (unless_empty 0x0101 says) o₃ w) where
      both : Written o 0 (output_of (accepted_call (bridge_of s) e ss)) o₃ w
      both =
          written_append o 0 (unless_empty 0x0102 (bytes_of x.actions)) (unless_empty 0x0101 (sent_by x))
          (subst (λ (ys : List ℕ). Written o 0 (unless_empty 0x0102 ys) o₂ at) acts_as a)
          (subst (λ (ys : List ℕ). Written o₂ at (unless_empty 0x0101 ys) o₃ w) p.replies b)

      pub event_taken : fits_in (length ss) 0 r.used ≡ true → EventTaken (call_of (bridge_of s) e ss) ss o o₃ (record { state = r.state; used = r.used; written = w; returned = r.returned })
      event_taken h =
          let t = call_accepted (bridge_of s) e ss good (fits_as true h) in
          record {
            outcome = ap (λ (g : Given). g.answer.outcome) t;
            bridge = ap bridge_of p.state ∙ sym (ap (λ (g : Given). g.answer.bridge) t);
            used = p.used ∙ sym (ap (λ (g : Given). g.answer.samples) t);
            codes = p.codes ∙ sym (ap (λ (g : Given). g.answer.codes) t);
            wrote = subst (λ (g : Given). Written o 0 (output_of g) o₃ w) (sym t) both;
            ranged = subst InRange (sym p.state) (event_keeps s e ss 0 n);
            within = omega (arith, a.after, b.after, some_length 0x0102 acts, some_length 0x0101 says, acts_few, says_few, says_size);
            few = samples_few h;
          }
