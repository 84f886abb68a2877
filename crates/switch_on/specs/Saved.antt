-- Settings that command 05 stored, at the next switch-on (proofs/Saved.antt, `saved_back`): with AUTOLOAD_EN set they are the settings of
-- the page that they were saved from.
use Rattle.std.specs.Prelude.{ℕ, ◌≡◌, true, List}
use Rattle.registers.specs.Registers.{autoload_on}
use Rattle.registers.specs.Ranges.{PageInRange}
use Rattle.registers.specs.declared.Page.{Page}
use Rattle.settings.specs.Images.{image_of}
use Rattle.settings.specs.Saved.{SameSettings}
use Rattle.switch_on.specs.SwitchOn.{on_page}

abbrev pub SavedBack : Page → List ℕ → Type 0
SavedBack p factory = PageInRange p → autoload_on p.flags ≡ true → SameSettings p (on_page (image_of p) factory)
