-- The factory start, by computation. Assumes nothing.
use mathlib.Core.Path.{refl}
use Rattle.settings.specs.Images.{is_good}
use Rattle.switch_on.specs.SwitchOn.{used_of}
use Rattle.switch_on.specs.Start.{FactoryStart, FactoryContext}

pub factory_start : FactoryStart
unfolding is_good used_of
factory_start = refl

pub factory_context_lem : FactoryContext
unfolding is_good used_of
factory_context_lem = refl
