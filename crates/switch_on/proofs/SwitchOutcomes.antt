-- Each way out of switch-on, over plain variables, is the definition's. Assumes nothing.
use Prim.Native.Nat.{ℕ, ◌/◌}
use mathlib.Core.Path.{◌≡◌, ap, ◌∙◌}
use mathlib.Core.Bool.{true, false}
use mathlib.Core.List.{List}
use lib.ListN.{length}
use Rattle.std.specs.Prelude.{Ok}
use Rattle.std.proofs.lemmas.Bool.{and_parts}
use Rattle.wire.specs.Action.{bytes_of}
use Rattle.wire.specs.Buffer.{overwrite}
use Rattle.wire.proofs.Actions.{actions_count}
use Rattle.registers.specs.declared.Page.{Page}
use Rattle.registers.specs.declared.State.{State}
use Rattle.refusals.specs.declared.Refusal.{Refusal}
use Rattle.settings.specs.Images.{is_good, page_of}
use Rattle.switch_on.specs.SwitchOn.{Device, SwitchedOn, used_of, eprom_of, state_of, on_actions, switched, refusal, reason_for, is_on, on_page, actions_fit, switch_of}

module _ (stored factory : List ℕ) (d : Device) (buffer : List ℕ) (mark : ℕ) where
  pub refuse : is_on stored factory (length buffer) mark ≡ false → {r : SwitchedOn} {why : Refusal} → r ≡ refusal why → why ≡ reason_for factory
      → switched r buffer ≡ switch_of stored factory d buffer mark
  unfolding switch_of
  refuse h q w = rw (h, q, w)

  module _ (h : is_on stored factory (length buffer) mark ≡ true) where
    pub factory_good : is_good factory ≡ true
    factory_good = (and_parts (is_good factory) (actions_fit stored factory (length buffer) mark) h).0

    pub room_left : actions_fit stored factory (length buffer) mark ≡ true
    room_left = (and_parts (is_good factory) (actions_fit stored factory (length buffer) mark) h).1

    -- the page is the used image's, and so many are the bytes of its actions
    pub goes_on : {i : List ℕ} → i ≡ used_of stored factory → {p : Page} → p ≡ page_of i → {n : ℕ} → n ≡ length (bytes_of (on_actions p))
        → {e b : List ℕ} {s : State} → e ≡ eprom_of stored factory → s ≡ state_of p e d → b ≡ overwrite buffer mark (bytes_of (on_actions p))
        → switched (record { bridge = record { state = s }; outcome = Ok tt; actions = n / 4 }) b ≡ switch_of stored factory d buffer mark
    unfolding switch_of
    goes_on ei {p} ep {n} en ee es eb =
        let q : n / 4 ≡ length (on_actions p) = ap (λ (x : ℕ). x / 4) en ∙ actions_count (on_actions p) in
        let ep' : p ≡ on_page stored factory = ep ∙ ap page_of ei in
        rw (h, q, es, ee, eb, ep')
