-- The waveforms of 1-Wire (01, "1-Wire").
use Rattle.std.specs.Prelude.{ℕ, ◌-◌, ◌*◌, false, List, [], ◌∷◌, ◌++◌, reverse, get_or, take}
use Rattle.wire.specs.Action.{Action, action, release, dq}
use Rattle.packet.specs.Register.{byte_bits, zeros}
use Rattle.one_wire_bus.specs.declared.Waits.{Waits}
use Rattle.lines.specs.Lines.{released, low, sampled, waits, low_or_released, for_each}
use Rattle.lines.specs.Waves.{LineWave, quiet, once, eight}

-- "Timings: reset, write bit, read bit, three bytes each". The three waits of a group, in µs: "For a group (a, b, c) the waits are b − a,
-- c − b, 255 − c, a negative one counting 0 (H), in 8 µs for the first group, 1 µs for the others"
abbrev pub group_waits : ℕ → ℕ → ℕ → ℕ → Waits
group_waits unit a b c = record { first = unit * (b - a); second = unit * (c - b); third = unit * (255 - c) }

abbrev pub reset_waits : List ℕ → Waits
reset_waits ts = group_waits 8 (get_or ts 0 0) (get_or ts 1 0) (get_or ts 2 0)

abbrev pub write_waits : List ℕ → Waits
write_waits ts = group_waits 1 (get_or ts 3 0) (get_or ts 4 0) (get_or ts 5 0)

abbrev pub read_waits : List ℕ → Waits
read_waits ts = group_waits 1 (get_or ts 6 0) (get_or ts 7 0) (get_or ts 8 0)

-- a slot: DQ low, wait, an action, wait, an action, wait; "Even a wait of 0 is written"
abbrev pub slot : Waits → Action → Action → List Action
slot w x y = low dq ∷ waits w.first ∷ x ∷ waits w.second ∷ y ∷ waits w.third ∷ []

-- 60 and a bit read: "low, wait, release, wait, sample, wait"
abbrev pub sample_slot : Waits → List Action
sample_slot w = slot w (released dq) (sampled dq)

-- a bit written: "low, wait, release or low, wait, release, wait", where the fifth action's verb is given
abbrev pub write_slot : Waits → ℕ → ℕ → List Action
write_slot w fifth b = slot w (low_or_released dq b) (action fifth dq 0)

-- "Bytes go low bit first"
abbrev pub low_first : ℕ → List ℕ
low_first byte = reverse (byte_bits byte)

-- the low n bits of a byte; the last one's fifth action has the verb given, the others' releases
unfoldable pub write_slots : Waits → ℕ → ℕ → ℕ → List Action
write_slots w n fifth byte = for_each (write_slot w release) (take (n - 1) (low_first byte)) ++ write_slot w fifth (get_or (low_first byte) (n - 1) 0)

-- eight bits read
abbrev pub read_slots : Waits → List Action
read_slots w = for_each (λ _. sample_slot w) (zeros 8)

-- THE WAVEFORMS, with the samples from place s on

-- 60: a slot of the first group that samples
abbrev pub one_wire_reset : List ℕ → List ℕ → ℕ → LineWave
one_wire_reset ts ss s = once (sample_slot (reset_waits ts)) ss s

-- 61, 63, 67: n bits written
abbrev pub one_wire_write : List ℕ → ℕ → ℕ → ℕ → LineWave
one_wire_write ts n fifth byte = quiet (write_slots (write_waits ts) n fifth byte)

-- 62: eight bits read, the first one lowest
abbrev pub one_wire_read : List ℕ → List ℕ → ℕ → LineWave
one_wire_read ts ss s = eight false (read_slots (read_waits ts)) ss s

-- 64: a bit read
abbrev pub one_wire_read_bit : List ℕ → List ℕ → ℕ → LineWave
one_wire_read_bit ts ss s = once (sample_slot (read_waits ts)) ss s
