-- What bridge_replay of include/bridge.h gives: "Replays a session as far as surely fits into the output, and says how many bytes were
-- written": the steps of a run (session/specs/Runs.antt).
use Rattle.std.specs.Prelude.{ℕ, ◌≡◌, true, cond, not, List, eqb, length, Result, Ok, Err}
use Rattle.wire.specs.Buffer.{overwrite}
use Rattle.session.specs.declared.replay.Cursor.{Cursor}
use Rattle.session.specs.Runs.{Steps, steps_of, all_steps}
use Rattle.state_bytes.specs.StateBytes.{state_bytes, is_state}
use Rattle.refusals.specs.Refusals.{number_of}
use Rattle.refusals.specs.declared.Refusal.{Refusal}
use Rattle.refusals.specs.declared.Refusal.TheVariants.{Ranges}
use Rattle.export.specs.Exported.{bridge_in}

-- the cursor as C holds it: "the state and five numbers"
pub record CCursor : Type 0 where
  pub state : List ℕ
  pub at : ℕ
  pub end : ℕ
  pub sample : ℕ
  pub sampled : ℕ
  pub done : ℕ

abbrev pub c_cursor : List ℕ → ℕ → ℕ → ℕ → ℕ → ℕ → CCursor
c_cursor state at end sample sampled done = record { state = state; at = at; end = end; sample = sample; sampled = sampled; done = done }

-- "the replay is over when `done` is not 0"
abbrev pub cursor_of : CCursor → Cursor
cursor_of h = record { bridge = bridge_in h.state; at = h.at; end = h.end; sample = h.sample; sampled = h.sampled; done = not (eqb h.done 0) }

-- .. where its state is one
abbrev pub cursor_asked : CCursor → Result Cursor Refusal
cursor_asked h = cond (is_state h.state) (Ok (cursor_of h)) (Err Ranges)

-- .. and as it is handed back
abbrev pub c_cursor_of : Cursor → CCursor
c_cursor_of c = c_cursor (state_bytes c.bridge.state) c.at c.end c.sample c.sampled (cond c.done 1 0)

-- a call's number, the cursor and the output that it leaves, and how many bytes were written
pub record ReplayCall : Type 0 where
  pub number : ℕ
  pub cursor : CCursor
  pub output : List ℕ
  pub written : ℕ

abbrev pub replay_call : ℕ → CCursor → List ℕ → ℕ → ReplayCall
replay_call n h x w = record { number = n; cursor = h; output = x; written = w }

-- BRIDGE_REPLAY on a session from a cursor h, with an output that held o: "1 if `state` is no state", else a run
abbrev pub replayed : List ℕ → Steps → ReplayCall
replayed o t = replay_call 0 (c_cursor_of t.next) (overwrite o 0 t.bytes) (length t.bytes)

unfoldable pub replay_gives : List ℕ → CCursor → List ℕ → ReplayCall
replay_gives session h o = cond (is_state h.state) (replayed o (steps_of all_steps session (length o) (cursor_of h))) (replay_call (number_of Ranges) h o 0)

-- .. and what is handed back of the run's cursor is that cursor, so that the next call goes on from it
pub record Replays (session : List ℕ) (h : CCursor) (o : List ℕ) (r : ReplayCall) : Type 0 where
  pub gives : r ≡ replay_gives session h o
  pub held : is_state h.state ≡ true → (is_state r.cursor.state ≡ true) × (cursor_of r.cursor ≡ (steps_of all_steps session (length o) (cursor_of h)).next)
