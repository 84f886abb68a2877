-- The two ways out of the replay's call: what is stored of a cursor is that cursor. Assumes nothing.
use Prim.Native.Nat.{ℕ}
use mathlib.Core.Path.{◌≡◌, refl, sym, ap, ◌∙◌}
use mathlib.Core.Bool.{Bool, true, false, cond, not, false≢true, true≢false}
use mathlib.Core.List.{List}
use native.Mathlib.Nat.{zero-add}
use lib.Dec.{eqb}
use lib.ListN.{length}
use Rattle.std.specs.Prelude.{Result, Ok, Err, is_ok}
use Rattle.wire.specs.Buffer.{overwrite}
use Rattle.session.specs.declared.replay.Cursor.{Cursor}
use Rattle.session.specs.declared.replay.Ran.{Ran}
use Rattle.session.specs.Runs.{steps_of, all_steps, Runs}
use Rattle.state_bytes.specs.StateBytes.{state_in, is_state}
use Rattle.state_bytes.specs.Parts.{Stored}
use Rattle.refusals.specs.Refusals.{number_of}
use Rattle.refusals.specs.declared.Refusal.{Refusal}
use Rattle.refusals.specs.declared.Refusal.TheVariants.{Ranges}
use Rattle.export.specs.Replaying.{CCursor, c_cursor, c_cursor_of, cursor_of, cursor_asked, replay_call, replayed, replay_gives, Replays}
use Rattle.state_bytes.proofs.Back.{state_back}

mark_is : (b : Bool) → b ≡ not (eqb (cond b 1 0) 0)
mark_is true = refl
mark_is false = refl

module _ (session : List ℕ) (h : CCursor) (o : List ℕ) where
  pub replay_refused : (t : Bool) → is_state h.state ≡ t → {r : Result Cursor Refusal} {why : Refusal} → r ≡ cond t (Ok (cursor_of h)) (Err Ranges) → r ≡ Err why → {n : ℕ} → n ≡ number_of why → Replays session h o (replay_call n h o 0)
  unfolding replay_gives
  replay_refused true e er q en = let x : true ≡ false = ap is_ok (sym er ∙ q) in absurd (true≢false x)
  replay_refused false e {why = why} er q en =
      let w : why ≡ Ranges = cc in
      record { gives = rw (e, en, w); held = λ t. absurd (false≢true (sym e ∙ t)) }

  -- r is where the run got to, state and m what is stored of it
  module _ (r : Ran) {state : List ℕ} (st : Stored r.cursor.bridge.state state) {m : ℕ} (em : m ≡ cond r.cursor.done 1 0) where
    abbrev left : CCursor
    left = c_cursor state r.cursor.at r.cursor.end r.cursor.sample r.cursor.sampled m

    left_cursor : cursor_of left ≡ r.cursor
    left_cursor =
        let t : state_in state ≡ r.cursor.bridge.state = ap state_in st.bytes ∙ (state_back r.cursor.bridge.state st.sized).1 in
        let d : not (eqb m 0) ≡ r.cursor.done = sym (mark_is r.cursor.done ∙ ap (λ (k : ℕ). not (eqb k 0)) (sym em)) in
        λ k. record { bridge = record { state = t k }; at = r.cursor.at; end = r.cursor.end; sample = r.cursor.sample; sampled = r.cursor.sampled; done = d k }

    pub replay_taken : is_state h.state ≡ true → {a : Result Cursor Refusal} {c : Cursor} → a ≡ cursor_asked h → a ≡ Ok c → {x : List ℕ} → Runs all_steps session c o x r → Replays session h o (replay_call 0 left x r.written)
    unfolding replay_gives
    replay_taken e {c = c} ea ok {x} runs =
        let there : cursor_asked h ≡ Ok (cursor_of h) = rw e refl in
        let ec : c ≡ cursor_of h = cc in
        let t = steps_of all_steps session (length o) in
        record {
          gives =
              (λ k. replay_call 0 (c_cursor (st.bytes k) r.cursor.at r.cursor.end r.cursor.sample r.cursor.sampled (em k)) (runs.made.wrote.bytes k) (runs.made.wrote.after k))
              ∙ (λ k. replay_call 0 (c_cursor_of (runs.made.next k)) (overwrite o 0 (t c).bytes) (zero-add (length (t c).bytes) k))
              ∙ ap (λ (d : Cursor). replayed o (t d)) ec
              ∙ rw e;
          held = λ _. (
            ap is_state st.bytes ∙ (state_back r.cursor.bridge.state st.sized).0,
            left_cursor ∙ runs.made.next ∙ ap (λ (d : Cursor). (t d).next) ec,
          );
        }
