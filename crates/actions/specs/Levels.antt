-- What actions make of a line's level, as a Value Change Dump (IEEE 1364) shows it.
use Rattle.std.specs.Prelude.{ℕ, Bool, cond, ◌&&◌, List, [], ◌∷◌, eqb, leb, Option, Some, None, option_map, false}
use Rattle.wire.specs.Action.{Action, release, drive_low, drive_high, sample_line}
use Rattle.actions.specs.Reading.{wait_of}

-- the level's letter: 0, 1 or z
abbrev pub low : ℕ
low = 0x30

abbrev pub high : ℕ
high = 0x31

abbrev pub free : ℕ
free = 0x7A

-- the level that a verb drives a line to
abbrev pub driven_level : ℕ → ℕ
driven_level verb = cond (eqb verb drive_low) low (cond (eqb verb drive_high) high free)

-- THE FIRST ACTION of a line with a verb from one to another, none if there is none, and how many microseconds are waited right before
-- it; so many were waited right before the first of all
unfoldable pub first_of : ℕ → ℕ → ℕ → ℕ → List Action → Option (Action × ℕ)
first_of line least most waited [] = None
first_of line least most waited (a ∷ as') = cond (eqb a.line line && leb least a.verb && leb a.verb most) (Some (a, waited)) (first_of line least most (wait_of a) as')

-- the level that actions first drive a line to, if they drive it
abbrev pub first_driven : ℕ → List Action → Option ℕ
first_driven line as' = option_map (λ f. driven_level f.0.verb) (first_of line drive_low drive_high 0 as')

-- the longest wait, in microseconds, through which a line shows the level sampled after it
abbrev pub near : ℕ
near = 30

-- WHETHER A LINE SHOWS THE LEVEL SAMPLED NEXT: of what drives, releases or samples it a sample comes first, and the wait right before
-- that one, if there is one, is not longer
abbrev pub is_near_sample : Option (Action × ℕ) → Bool
is_near_sample None = false
is_near_sample (Some (a, waited)) = eqb a.verb sample_line && leb waited near

abbrev pub sampled_next : ℕ → List Action → Bool
sampled_next line as' = is_near_sample (first_of line release sample_line 0 as')
