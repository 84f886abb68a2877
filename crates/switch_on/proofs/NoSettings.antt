-- Where the settings' part is empty, switch-on is refused. Assumes nothing.
use Prim.Native.Nat.{ℕ}
use mathlib.Core.Path.{◌≡◌, refl, sym, ap, subst, ◌∙◌}
use mathlib.Core.Bool.{Bool, true, false, cond, ◌&&◌}
use mathlib.Core.List.{List, []}
use native.Mathlib.Omega.{arith}
use lib.ListN.{get_or, length}
use Rattle.registers.specs.Registers.{autoload_on, image_bytes}
use Rattle.settings.specs.Images.{is_good}
use Rattle.settings.proofs.Good.{good_size}
use Rattle.switch_on.specs.SwitchOn.{used_of, is_on, actions_fit, settings_of}

module _ (stored factory : List ℕ) where
  -- a good image is not empty
  used_size : is_good factory ≡ true → length (used_of stored factory) ≡ image_bytes
  unfolding used_of
  used_size h = go (is_good stored) refl (autoload_on (get_or stored 0 0))
    where
      go : (t : Bool) → is_good stored ≡ t → (u : Bool) → length (cond (t && u) stored factory) ≡ image_bytes
      go true g true = good_size stored g
      go true g false = good_size factory h
      go false g u = good_size factory h

  module _ (size mark : ℕ) where
    pub no_settings : {r : List ℕ} → r ≡ settings_of stored factory size mark → length r ≡ 0 → is_on stored factory size mark ≡ false
    unfolding settings_of
    no_settings q e = go (is_good factory) refl (actions_fit stored factory size mark) refl
      where
        go : (t : Bool) → is_good factory ≡ t → (u : Bool) → actions_fit stored factory size mark ≡ u → is_on stored factory size mark ≡ false
        go true h true k =
            let e' : length (used_of stored factory) ≡ 0 = let on : is_on stored factory size mark ≡ true = rw (h, k) in subst (λ (b : Bool). length (cond b (used_of stored factory) []) ≡ 0) on (sym (ap length q) ∙ e) in
            absurd (omega (arith, used_size h, e'))
        go true h false k = rw (h, k)
        go false h u k = rw h
