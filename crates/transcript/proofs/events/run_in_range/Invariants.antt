-- Event after event while there is room.
use Rattle.records.specs.Contents.{events_of}
use Rattle.transcript.proofs.Reaching.{Reaching}
use Rattle.transcript.proofs.events.run_in_range.Given as goal

abbrev pub invariant-loop-read : goal.invariant-loop-read
invariant-loop-read l = Reaching l.most l.initial.state (events_of l.received l.body) l.samples l.initial.out l.out l.state l.read l.used l.written
