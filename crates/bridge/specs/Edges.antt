-- 01, "Edges to prove together": P1 to P12 in one statement (proofs/Edges.antt, `edges`), from the factory start, by what the calls
-- themselves answer: P1 to P7 the call for an event, P8 to P12 the judge's.
use Rattle.std.specs.Prelude.{ℕ, ◌*◌, ◌≡◌, false, List, [], ◌∷◌, take, Ok}
use Rattle.wire.specs.Action.{bytes_of, dq}
use Rattle.lines.specs.Lines.{low, released, sampled, waits}
use Rattle.packet.specs.Register.{zeros}
use Rattle.packet.specs.Packet.{register_bytes}
use Rattle.registers.specs.Registers.{serial_bytes, held_bytes}
use Rattle.registers.specs.declared.State.{State}
use Rattle.registers.specs.declared.Event.TheVariants as e
use Rattle.registers.specs.declared.Wait.TheVariants as v
use Rattle.settings.specs.Images.{page_of, factory_image}
use Rattle.grammar.specs.declared.Verdict.TheVariants.{Whole, Open, Wrong}
use Rattle.bridge.specs.Answering.{Bridge, Lent, lent, Given, answer_of}
use Rattle.bridge.specs.Judging.{judgement_of}

-- "Start is factory, 00 seven times and FF three, IOG count FF, version and serial 0"; "no wait"
abbrev pub factory_state : State
factory_state = record {
  page = page_of factory_image;
  shared = record { eprom = factory_image; cycles = 0xFF; version = 0; serial = zeros serial_bytes };
  wait = v.Nothing;
  held = zeros held_bytes;
  drop = false;
}

abbrev pub start : Bridge
start = record { state = factory_state }

-- samples and room that suffice for each of these calls
abbrev pub sufficient : Lent
sufficient = lent (zeros 1) 0 (zeros 28) 0 (zeros register_bytes) 0

abbrev pub called : Bridge → ℕ → Given
called b x = answer_of b (e.Byte x) sufficient

-- the bridge after bytes from the start, a call each
abbrev pub after : Bridge → List ℕ → Bridge
after b [] = b
after b (x ∷ xs) = after (called b x).answer.bridge xs

-- what the call for a byte after these replies, and the actions that it writes
abbrev pub replies_to : List ℕ → ℕ → List ℕ
replies_to xs x = take (called (after start xs) x).answer.replies (called (after start xs) x).replies

abbrev pub actions_of : List ℕ → ℕ → List ℕ
actions_of xs x = take (4 * (called (after start xs) x).answer.actions) (called (after start xs) x).actions

-- 43 sends N, 45 the packet register from REG0 on, 14 DDRD
pub record Edges : Type 0 where
  -- size operand 0 gives N 64
  pub P1 : replies_to (0x02 ∷ 0x42 ∷ 0 ∷ []) 0x43 ≡ 64 ∷ []
  -- 65 gives 1
  pub P2 : replies_to (0x02 ∷ 0x42 ∷ 65 ∷ []) 0x43 ≡ 1 ∷ []
  -- N 9 takes two bytes
  pub P3 : (after start (0x02 ∷ 0x40 ∷ 0x04 ∷ 0x42 ∷ 9 ∷ 0x44 ∷ [])).state.wait ≡ v.Packet 2 false
  -- N 12, bytes 34 12, high first: REG0 23, REG1 40
  pub P4 : replies_to (0x02 ∷ 0x40 ∷ 0x04 ∷ 0x42 ∷ 12 ∷ 0x44 ∷ 0x34 ∷ 0x12 ∷ []) 0x45 ≡ 0x23 ∷ 0x40 ∷ zeros 6
  -- low first: REG6 02, REG7 34
  pub P5 : replies_to (0x02 ∷ 0x40 ∷ 0x00 ∷ 0x42 ∷ 12 ∷ 0x44 ∷ 0x34 ∷ 0x12 ∷ []) 0x45 ≡ 0 ∷ 0 ∷ 0 ∷ 0 ∷ 0 ∷ 0 ∷ 0x02 ∷ 0x34 ∷ []
  -- DDRD written FF from 00 is DC
  pub P6 : replies_to (0x13 ∷ 0xFF ∷ []) 0x14 ≡ 0xDC ∷ []
  -- default reset waits 496, 64, 408 µs
  pub P7 : actions_of (0x03 ∷ []) 0x60 ≡ bytes_of (low dq ∷ waits 496 ∷ released dq ∷ waits 64 ∷ sampled dq ∷ waits 408 ∷ [])
  pub P8 : judgement_of start [] ≡ Ok Whole
  pub P9 : judgement_of start (0x02 ∷ 0x40 ∷ 0x04 ∷ 0x42 ∷ 0x09 ∷ 0x44 ∷ 0xAA ∷ 0x01 ∷ []) ≡ Ok Whole
  pub P9-without-last : judgement_of start (0x02 ∷ 0x40 ∷ 0x04 ∷ 0x42 ∷ 0x09 ∷ 0x44 ∷ 0xAA ∷ []) ≡ Ok Open
  pub P10 : judgement_of start (0x02 ∷ 0x44 ∷ []) ≡ Ok (Wrong 1 0x40)
  pub P11 : judgement_of start (0x02 ∷ 0x40 ∷ 0x04 ∷ 0x01 ∷ 0x02 ∷ 0x46 ∷ []) ≡ Ok Whole
  pub P12 : judgement_of start (0x02 ∷ 0x40 ∷ 0x04 ∷ 0x00 ∷ 0x02 ∷ 0x46 ∷ []) ≡ Ok (Wrong 5 0x40)
