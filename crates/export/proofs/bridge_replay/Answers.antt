-- No state, or the run.
use mathlib.Core.Path.{refl}
use Rattle.export.specs.Replaying.{c_cursor}
use Rattle.state_bytes.specs.StateBytes.{is_state}
use Rattle.state_bytes.proofs.Back.{state_facts}
use Rattle.export.proofs.Replays.{replay_refused, replay_taken}
use Rattle.export.proofs.bridge_replay.Goals as goal

pub returns-in-Err : goal.returns-in-Err
returns-in-Err c =
    replay_refused c.args.session.now (c_cursor c.args.state.now c.args.at.now c.args.end.now c.args.sample.now c.args.sampled.now c.args.done.now) c.args.output.now (is_state c.args.state.now) refl c.cursor_of.ensures.gives c.in-Err.is c.from.ensures

pub store-requires : goal.store-requires
store-requires c =
    (state_facts c.args.state.now c.in-Ok.ensures.is_state).size

pub returns : goal.returns
returns c =
    replay_taken c.args.session.now (c_cursor c.args.state.now c.args.at.now c.args.end.now c.args.sample.now c.args.sampled.now c.args.done.now) c.args.output.now c.run-r.result c.store.ensures c.mark.ensures c.in-Ok.ensures.is_state c.cursor_of.ensures.gives c.in-Ok.is c.run-r.ensures
