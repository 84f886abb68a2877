-- What legality says of each section's commands. Assumes nothing.
use Prim.Native.Nat.{ℕ}
use mathlib.Core.Path.{◌≡◌}
use mathlib.Core.Bool.{Bool, true}
use Rattle.std.specs.Prelude.{Option, Ok}
use Rattle.std.proofs.lemmas.Bool.Decides.{nat_tests}
use native.Mathlib.Omega.{arith}
use Rattle.commands.specs.Commands.{Command}
use Rattle.commands.specs.Legality.{is_selected, needs_configuration, legality_of}

-- a legal command is common or of the interface selected, and SPI is configured if it needs that
pub record LegalHere (flags : ℕ) (on : Bool) (c : Option Command) : Type 0 where
  pub selected : is_selected flags c ≡ true
  pub configured : needs_configuration c ≡ true → on ≡ true

pub legal_here : (flags : ℕ) (on : Bool) (c : Option Command) → legality_of flags on c ≡ Ok tt → LegalHere flags on c
legal_here flags on c h = record { selected = grind (arith, nat_tests); configured = λ q. grind (arith, nat_tests) }
