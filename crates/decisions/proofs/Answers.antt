-- What answers say, whatever the state holds: which can reject, and how many bytes they send. Assumes nothing.
use Prim.Native.Nat.{ℕ, ◌≤◌}
use mathlib.Core.Path.{◌≡◌, refl, sym, ap}
use mathlib.Core.Bool.{Bool, true, false, not, cond, ◌||◌, false≢true}
use mathlib.Core.List.{List, [], ◌∷◌, map}
use native.Mathlib.Omega.{arith}
use lib.Dec.{eqb}
use lib.ListN.{length}
use Rattle.codes.specs.Codes.{rejecting, any_rejecting}
use Rattle.packet.specs.Packet.{low_bytes}
use Rattle.registers.specs.Registers.{bits_in}
use Rattle.registers.specs.declared.State.{State}
use Rattle.decisions.specs.Said.{sent, replies_of, codes_of, is_rejected}
use Rattle.decisions.specs.Decisions.{Answer, Silent, Returns, ReturnsTwice, ReturnsAndSends, Checked, Sends, SendsSample, SendsLevel, SendsEprom, SendsSerial, SendsTimings, SendsPacket, SendsLow, ReturnsThenLow}
use Rattle.decisions.specs.Effects.{said_of}
use Rattle.decisions.specs.Promises.{most_replies}
use Rattle.wire.proofs.Choices.{at_most}
use Rattle.decisions.proofs.Sent.{codes_sent}

-- ANSWERS THAT REJECT NOTHING
abbrev pub accepting : Answer → Bool
accepting Silent = true
accepting (Returns code) = not (rejecting code)
accepting ReturnsTwice = true
accepting (ReturnsAndSends code) = false
accepting (Checked code) = not (rejecting code)
accepting (Sends v) = true
accepting SendsSample = true
accepting SendsLevel = true
accepting SendsEprom = true
accepting SendsSerial = true
accepting SendsTimings = true
accepting SendsPacket = true
accepting SendsLow = true
accepting ReturnsThenLow = true

or_false : (t : Bool) → not t ≡ true → t || false ≡ false
or_false true h = sym h
or_false false h = refl

data_accepted : (xs : List ℕ) → is_rejected (map sent xs) ≡ false
data_accepted xs = ap any_rejecting (codes_sent xs)

pub accepting_said : (s : State) (n : ℕ) (a : Answer) → accepting a ≡ true → is_rejected (said_of s n a) ≡ false
unfolding codes_of
accepting_said s n Silent h = refl
accepting_said s n (Returns code) h = or_false (rejecting code) h
accepting_said s n ReturnsTwice h = refl
accepting_said s n (ReturnsAndSends code) h = absurd (false≢true h)
accepting_said s n (Checked code) h = go (eqb n 0)
  where
    go : (t : Bool) → rejecting (cond t 0 code) || false ≡ false
    go true = refl
    go false = or_false (rejecting code) h
accepting_said s n (Sends v) h = refl
accepting_said s n SendsSample h = refl
accepting_said s n SendsLevel h = refl
accepting_said s n SendsEprom h = data_accepted s.shared.eprom
accepting_said s n SendsSerial h = data_accepted s.shared.serial
accepting_said s n SendsTimings h = data_accepted s.page.timings
accepting_said s n SendsPacket h = data_accepted s.page.packet
accepting_said s n SendsLow h = data_accepted (low_bytes (bits_in s.page) s.page.packet)
accepting_said s n ReturnsThenLow h = data_accepted (low_bytes (bits_in s.page) s.page.packet)

-- ANSWERS OF AT MOST TWO BYTES; the others send what the state holds
abbrev pub short : Answer → Bool
short Silent = true
short (Returns code) = true
short ReturnsTwice = true
short (ReturnsAndSends code) = true
short (Checked code) = true
short (Sends v) = true
short SendsSample = true
short SendsLevel = true
short SendsEprom = false
short SendsSerial = false
short SendsTimings = false
short SendsPacket = false
short SendsLow = false
short ReturnsThenLow = false

pub one_or_none : (on : Bool) (k : ℕ) → length (cond on (k ∷ []) []) ≡ cond on 1 0
one_or_none true k = refl
one_or_none false k = refl

pub short_few : (on : Bool) (s : State) (x : ℕ) (a : Answer) → short a ≡ true → length (replies_of on (said_of s x a)) ≤ most_replies
unfolding replies_of
short_few on s x Silent h = omega arith
short_few on s x (Returns k) h = omega (arith, one_or_none on k, at_most on 1)
short_few true s x ReturnsTwice h = omega arith
short_few false s x ReturnsTwice h = omega arith
short_few on s x (ReturnsAndSends k) h = omega arith
short_few on s x (Checked k) h = omega (arith, one_or_none on (cond (eqb x 0) 0x00 k), at_most on 1)
short_few on s x (Sends v) h = omega arith
short_few on s x SendsSample h = omega arith
short_few on s x SendsLevel h = omega arith
short_few on s x SendsEprom h = absurd (false≢true h)
short_few on s x SendsSerial h = absurd (false≢true h)
short_few on s x SendsTimings h = absurd (false≢true h)
short_few on s x SendsPacket h = absurd (false≢true h)
short_few on s x SendsLow h = absurd (false≢true h)
short_few on s x ReturnsThenLow h = absurd (false≢true h)
