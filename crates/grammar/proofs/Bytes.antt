-- What src/rows.rt says of a byte is what the command list says of it: computed over all bytes. Assumes nothing.
use Prim.Native.Nat.{ℕ, ◌<◌}
use mathlib.Core.Path.{◌≡◌, refl, ap}
use mathlib.Core.Bool.{Bool, cond, ◌&&◌, ◌||◌}
use lib.Dec.{eqb, ltb, leb}
use Rattle.std.specs.Prelude.{Option, Some, None}
use Rattle.codes.specs.Codes.{no_configuration, unknown_command, wrong_interface}
use Rattle.packet.specs.Packet.{packet_bytes}
use Rattle.grammar.specs.Grammar.{Interface, I2C, SPI, OneWire, Context, ContextChange, Keep, Clear, Select, Configure, Resize, is_same, selected, commands, extended_commands}
use Rattle.grammar.specs.Scanner.{opening_of, extension_of}
use Rattle.grammar.specs.Following.{operands_of}
use Rattle.grammar.specs.Lookups.{accepts, is_of, needs_configured, code_of, change_of}
use Rattle.grammar.proofs.Lookups.{values, byte_fact}

-- the same of functions of a context too
byte_context_fact : {A : Type 0} (f g : ℕ → Context → A) → values {A = Context → A} f 256 0 ≡ values {A = Context → A} g 256 0 → (b : ℕ) (c : Context) → b < 256 → f b c ≡ g b c
byte_context_fact f g e b c h = ap (λ (k : Context → _). k c) (byte_fact f g e b h)

-- BETWEEN ITEMS

abbrev ranged : Interface → ℕ → Bool
ranged I2C b = leb 0x20 b && leb b 0x27
ranged SPI b = leb 0x40 b && leb b 0x4C
ranged OneWire b = leb 0x60 b && leb b 0x6A

is_of_computed : (i : Interface) → values (λ (b : ℕ). is_of i (opening_of b)) 256 0 ≡ values (ranged i) 256 0
unfolding opening_of commands
is_of_computed I2C = refl
is_of_computed SPI = refl
is_of_computed OneWire = refl

pub is_of_byte : (i : Interface) (b : ℕ) → b < 256 → is_of i (opening_of b) ≡ ranged i b
is_of_byte i b h = byte_fact (λ (b : ℕ). is_of i (opening_of b)) (ranged i) (is_of_computed i) b h

abbrev five : ℕ → Bool
five b = eqb b 0x41 || eqb b 0x44 || eqb b 0x46 || eqb b 0x4B || eqb b 0x4C

five_computed : values (λ (b : ℕ). needs_configured (opening_of b)) 256 0 ≡ values five 256 0
unfolding opening_of commands
five_computed = refl

pub needs_configured_byte : (b : ℕ) → b < 256 → needs_configured (opening_of b) ≡ five b
needs_configured_byte b h = byte_fact (λ (b : ℕ). needs_configured (opening_of b)) five five_computed b h

-- by the interface and whether it is configured
abbrev begins : Option Interface → Bool → ℕ → Bool
begins None q b = ltb b 0x1F
begins (Some i) q b = ltb b 0x1F || cond (is_same i SPI && needs_configured (opening_of b)) q (is_of i (opening_of b))

abbrev accepted_in : Option Interface → ℕ → Bool → ℕ → Bool
accepted_in i b q n = accepts (opening_of b) (record { interface = i; configured = q; bits = n })

abbrev begins_in : Option Interface → ℕ → Bool → ℕ → Bool
begins_in i b q n = begins i q b

begins_computed : (i : Option Interface) → values (accepted_in i) 256 0 ≡ values (begins_in i) 256 0
unfolding opening_of commands
begins_computed None = refl
begins_computed (Some I2C) = refl
begins_computed (Some SPI) = refl
begins_computed (Some OneWire) = refl

pub begins_byte : (b : ℕ) (c : Context) → b < 256 → accepts (opening_of b) c ≡ begins c.interface c.configured b
begins_byte b c h =
    ap (λ (f : Bool → ℕ → Bool). f c.configured c.bits) (byte_fact (accepted_in c.interface) (begins_in c.interface) (begins_computed c.interface) b h)

abbrev code_by : ℕ → Context → ℕ
code_by b c =
    cond (needs_configured (opening_of b) && selected SPI c) no_configuration
    (cond (is_of I2C (opening_of b) || is_of SPI (opening_of b) || is_of OneWire (opening_of b)) wrong_interface unknown_command)

code_computed : values {A = Context → ℕ} (λ b c. code_of (opening_of b) c) 256 0 ≡ values {A = Context → ℕ} (λ b c. code_by b c) 256 0
unfolding opening_of commands
code_computed = refl

pub code_byte : (b : ℕ) (c : Context) → b < 256 → code_of (opening_of b) c ≡ code_by b c
code_byte = byte_context_fact (λ b c. code_of (opening_of b) c) (λ b c. code_by b c) code_computed

abbrev takes_one : ℕ → Bool
takes_one b =
    eqb b 0x0B || eqb b 0x0D || eqb b 0x0F || eqb b 0x11 || eqb b 0x13 || eqb b 0x15 || eqb b 0x1D || eqb b 0x22 || eqb b 0x40 || eqb b 0x42
    || eqb b 0x61 || eqb b 0x63 || eqb b 0x67

abbrev operands_by : ℕ → Context → ℕ
operands_by b c = cond (takes_one b) 1 (cond (eqb b 0x65) 9 (cond (eqb b 0x44 || eqb b 0x4C) (packet_bytes c.bits) 0))

operands_computed : values {A = Context → ℕ} (λ b c. operands_of (opening_of b) c) 256 0 ≡ values {A = Context → ℕ} (λ b c. operands_by b c) 256 0
unfolding opening_of commands
operands_computed = refl

pub operands_byte : (b : ℕ) (c : Context) → b < 256 → operands_of (opening_of b) c ≡ operands_by b c
operands_byte = byte_context_fact (λ b c. operands_of (opening_of b) c) (λ b c. operands_by b c) operands_computed

abbrev change_by : ℕ → ContextChange
change_by b =
    cond (eqb b 0x00) Clear (cond (eqb b 0x01) (Select (Some I2C)) (cond (eqb b 0x02) (Select (Some SPI)) (cond (eqb b 0x03) (Select (Some OneWire)) (cond (eqb b 0x40) Configure (cond (eqb b 0x42) Resize Keep)))))

change_computed : values (λ (b : ℕ). change_of (opening_of b)) 256 0 ≡ values change_by 256 0
unfolding opening_of commands
change_computed = refl

pub change_byte : (b : ℕ) → b < 256 → change_of (opening_of b) ≡ change_by b
change_byte b h = byte_fact (λ (b : ℕ). change_of (opening_of b)) change_by change_computed b h

-- AFTER 1D

abbrev listed : ℕ → Bool
listed b = leb 0x01 b && leb b 0x03 || leb 0x08 b && leb b 0x0F

listed_computed : values {A = Context → Bool} (λ b c. accepts (extension_of b) c) 256 0 ≡ values {A = Context → Bool} (λ b c. listed b) 256 0
unfolding extension_of extended_commands
listed_computed = refl

pub listed_byte : (b : ℕ) (c : Context) → b < 256 → accepts (extension_of b) c ≡ listed b
listed_byte = byte_context_fact (λ b c. accepts (extension_of b) c) (λ b c. listed b) listed_computed

unknown_computed : values {A = Context → ℕ} (λ b c. code_of (extension_of b) c) 256 0 ≡ values {A = Context → ℕ} (λ b c. unknown_command) 256 0
unfolding extension_of extended_commands
unknown_computed = refl

pub unknown_byte : (b : ℕ) (c : Context) → b < 256 → code_of (extension_of b) c ≡ unknown_command
unknown_byte = byte_context_fact (λ b c. code_of (extension_of b) c) (λ b c. unknown_command) unknown_computed

loads_computed : values {A = Context → ℕ} (λ b c. operands_of (extension_of b) c) 256 0 ≡ values {A = Context → ℕ} (λ b c. cond (eqb b 0x0E) 1 0) 256 0
unfolding extension_of extended_commands
loads_computed = refl

pub loads_byte : (b : ℕ) (c : Context) → b < 256 → operands_of (extension_of b) c ≡ cond (eqb b 0x0E) 1 0
loads_byte = byte_context_fact (λ b c. operands_of (extension_of b) c) (λ b c. cond (eqb b 0x0E) 1 0) loads_computed

kept_computed : values (λ (b : ℕ). change_of (extension_of b)) 256 0 ≡ values (λ (b : ℕ). Keep) 256 0
unfolding extension_of extended_commands
kept_computed = refl

pub kept_byte : (b : ℕ) → b < 256 → change_of (extension_of b) ≡ Keep
kept_byte b h = byte_fact (λ (b : ℕ). change_of (extension_of b)) (λ (b : ℕ). Keep) kept_computed b h
