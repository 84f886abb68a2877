-- A line is low exactly if its sample is 0.
use mathlib.Core.Path.{◌∙◌, ap}
use Rattle.wire.specs.Sample.{level_of}
use Rattle.wire.proofs.Samples.{level_byte}
use Rattle.wire.proofs.level_at.Goals as goal

pub returns : goal.returns
returns c =
    c.from.ensures ∙ level_byte _ ∙ ap level_of c.byte_at.ensures
