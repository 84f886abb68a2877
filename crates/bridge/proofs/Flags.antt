-- What the flags say of the interface. Assumes nothing.
use Prim.Native.Nat.{ℕ, ◌+◌, ◌/◌, ◌%◌, ◌≤◌}
use mathlib.Core.Path.{◌≡◌, refl}
use mathlib.Core.Bool.{Bool, true, false, cond}
use native.Mathlib.Omega.{arith}
use borrow.Author.Tests.{eqb-true}
use lib.Dec.{eqb}
use Rattle.std.specs.Prelude.{Option, Some, None}
use Rattle.std.specs.Option.{option_eq}
use Rattle.grammar.specs.Grammar.{is_same}
use Rattle.grammar.specs.declared.Interface.{Interface}
use Rattle.grammar.specs.declared.Interface.TheVariants.{I2C, SPI, OneWire}
use Rattle.registers.specs.Registers.{i2c_selected, spi_selected, one_wire_selected}
use Rattle.registers.specs.Ranges.{selected_count}
use Rattle.registers.proofs.Flags.{same_selected}
use Rattle.bridge.specs.Views.{interface_of}

-- THE THREE LOW BITS say it, so a command that leaves them leaves the interface

abbrev choose : Bool → Bool → Bool → Option Interface
choose a b c = cond a (Some I2C) (cond b (Some SPI) (cond c (Some OneWire) None))

abbrev is : Option Interface → Interface → Bool
is i j = option_eq is_same i (Some j)

pub same_interface : (f g : ℕ) → f % 8 ≡ g % 8 → interface_of f ≡ interface_of g
same_interface f g h = let t = same_selected f g h in λ i. choose (eqb (t.i2c i) 1) (eqb (t.spi i) 1) (eqb (t.one_wire i) 1)

-- A FLAG IS SET exactly if its interface is the one selected
pub record OneSelected (flags : ℕ) : Type 0 where
  pub i2c : i2c_selected flags ≡ option_eq is_same (interface_of flags) (Some I2C)
  pub spi : spi_selected flags ≡ option_eq is_same (interface_of flags) (Some SPI)
  pub one_wire : one_wire_selected flags ≡ option_eq is_same (interface_of flags) (Some OneWire)

-- the same of three Booleans
abbrev Apart : Bool → Bool → Bool → Type 0
Apart a b c = (a ≡ is (choose a b c) I2C) × (b ≡ is (choose a b c) SPI) × (c ≡ is (choose a b c) OneWire)

apart : (x y z : ℕ) → x + y + z ≤ 1 → (a b c : Bool) → eqb x 1 ≡ a → eqb y 1 ≡ b → eqb z 1 ≡ c → Apart a b c
apart x y z h true true c p q r = let i = eqb-true x 1 p in let j = eqb-true y 1 q in absurd (omega arith)
apart x y z h true false true p q r = let i = eqb-true x 1 p in let j = eqb-true z 1 r in absurd (omega arith)
apart x y z h true false false p q r = (refl, refl, refl)
apart x y z h false true true p q r = let i = eqb-true y 1 q in let j = eqb-true z 1 r in absurd (omega arith)
apart x y z h false true false p q r = (refl, refl, refl)
apart x y z h false false true p q r = (refl, refl, refl)
apart x y z h false false false p q r = (refl, refl, refl)

pub one_selected : (flags : ℕ) → selected_count flags ≤ 1 → OneSelected flags
one_selected flags h =
    let t = apart (flags % 2) (flags / 2 % 2) (flags / 4 % 2) h (i2c_selected flags) (spi_selected flags) (one_wire_selected flags) refl refl refl in
    record { i2c = t.0; spi = t.1; one_wire = t.2 }
