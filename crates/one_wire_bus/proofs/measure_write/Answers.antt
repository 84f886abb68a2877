-- So many slots are so many actions.
use mathlib.Core.Path.{◌∙◌, ap}
use Prim.Native.Nat.{ℕ}
use Rattle.lines.specs.Waves.{measured}
use Rattle.one_wire_bus.specs.OneWire.{write_waits}
use Rattle.one_wire_bus.proofs.Slots.{write_length}
use Rattle.one_wire_bus.proofs.measure_write.Goals as goal

pub returns : goal.returns
returns c =
    c.quiet.ensures ∙ ap (λ (k : ℕ). measured 0 k 0) (write_length (write_waits c.args.ts) c.args.n c.args.fifth c.args.byte c.requires.0 c.requires.1)
