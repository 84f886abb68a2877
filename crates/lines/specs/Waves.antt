-- What a waveform is on the lines and what is measured of it, and the waveforms of single lines and ports (01, "Registers and common
-- commands"). The measure is declared in src/lib.rt.
use Rattle.std.specs.Prelude.{ℕ, ◌*◌, ◌≡◌, Bool, List, [], ◌∷◌, ◌++◌, length}
use Rattle.wire.specs.Action.{Action, action, set_latch, pb7, no_line}
use Rattle.wire.specs.Sample.{byte_at, samplings, SameFrom}
use Rattle.lines.specs.Lines.{low, high, levels, byte_of, port_actions}
use Rattle.lines.specs.declared.Measured.{Measured}

-- the actions, the samples used, and the byte that they give
pub record LineWave : Type 0 where
  pub actions : List Action
  pub used : ℕ
  pub byte : ℕ

-- what is measured before anything is written: an action is four bytes
abbrev pub measured : ℕ → ℕ → ℕ → Measured
measured used actions byte = record { used = used; bytes = 4 * actions; byte = byte }

abbrev pub measure_of : LineWave → Measured
measure_of w = measured w.used (length w.actions) w.byte

-- BY THE SAMPLES, from place s on

-- actions that sample nothing
abbrev pub quiet : List Action → LineWave
quiet as' = record { actions = as'; used = 0; byte = 0 }

-- actions that sample once and give the sample as it stands
abbrev pub once : List Action → List ℕ → ℕ → LineWave
once as' ss s = record { actions = as'; used = 1; byte = byte_at ss s }

-- actions that sample eight times and give the byte of the levels, the first of them highest or lowest
abbrev pub eight : Bool → List Action → List ℕ → ℕ → LineWave
eight high_first as' ss s = record { actions = as'; used = 8; byte = byte_of high_first (levels ss s 8) }

-- as many samples are used as actions sample
abbrev pub UsesTaken : LineWave → Type 0
UsesTaken w = w.used ≡ samplings w.actions

-- samples that agree on the used places give the same waveform
abbrev pub ReadsUsed : (List ℕ → ℕ → LineWave) → List ℕ → ℕ → List ℕ → ℕ → Type 0
ReadsUsed f ss m us k = SameFrom (f ss m).used ss m us k → f ss m ≡ f us k

-- SINGLE LINES AND PORTS

-- nothing happens on the lines
abbrev pub still : LineWave
still = quiet []

-- one action
abbrev pub single : ℕ → ℕ → ℕ → LineWave
single verb line value = quiet (action verb line value ∷ [])

-- one sample of a line or a port
abbrev pub sampling : ℕ → ℕ → List ℕ → ℕ → LineWave
sampling verb line ss s = once (action verb line 0 ∷ []) ss s

-- reinit: "all directions and latches 0"
abbrev pub reinit : LineWave
reinit = quiet (port_actions 0 0 0 0 0 0)

-- reinit, and then a line driven high
abbrev pub reinit_high : ℕ → LineWave
reinit_high line = quiet (reinit.actions ++ (high line ∷ []))

-- a port's latch written, a wait, and the latch written again
abbrev pub port_pulse : ℕ → ℕ → ℕ → ℕ → ℕ → LineWave
port_pulse line first unit wait last = quiet (action set_latch line first ∷ action unit no_line wait ∷ action set_latch line last ∷ [])

-- PB7 low, a wait, and PB7 high
abbrev pub pb7_pulse : ℕ → ℕ → LineWave
pb7_pulse unit wait = quiet (low pb7 ∷ action unit no_line wait ∷ high pb7 ∷ [])
