-- What 05 stored is good, so it is used. Assumes nothing.
use Prim.Native.Nat.{ℕ}
use mathlib.Core.Path.{◌≡◌, sym, subst}
use mathlib.Core.Bool.{Bool, true, cond, ◌&&◌}
use mathlib.Core.List.{List}
use Rattle.registers.specs.Registers.{autoload_on}
use Rattle.registers.specs.declared.Page.{Page}
use Rattle.settings.specs.Images.{image_of, is_good, page_of}
use Rattle.settings.specs.Saved.{SameSettings}
use Rattle.settings.proofs.Saved.{image_good, page_back}
use Rattle.switch_on.specs.SwitchOn.{used_of}
use Rattle.switch_on.specs.Saved.{SavedBack}

pub saved_back : (p : Page) (factory : List ℕ) → SavedBack p factory
unfolding used_of
saved_back p factory q a =
    subst (λ (i : List ℕ). SameSettings p (page_of i)) (sym (used (is_good (image_of p)) (autoload_on p.flags) (image_good p q) a)) (page_back p)
  where
    used : (t u : Bool) → t ≡ true → u ≡ true → cond (t && u) (image_of p) factory ≡ image_of p
    used t u g h = rw (g, h)
