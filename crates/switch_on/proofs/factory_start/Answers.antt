-- By computation, the factory image being good.
use Rattle.settings.specs.Images.{is_good}
use Rattle.switch_on.specs.SwitchOn.{used_of, switch_of}
use Rattle.switch_on.proofs.factory_start.Goals as goal

pub returns : goal.returns
unfolding switch_of is_good used_of
returns c =
    c.from_factory.ensures
