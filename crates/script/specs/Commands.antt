-- The list of names and the grammar's command list are written apart from each other; this says that they speak of the same commands.
use Rattle.std.specs.Prelude.{ℕ, ◌↔◌}
use mathlib.Core.List.{List, ◌∷◌, ◌++◌, map, Memᴰ}
use Rattle.names.specs.Names as names
use Rattle.names.specs.Names.{Row}
use Rattle.grammar.specs.Grammar.{Command, commands, extended_commands}

abbrev pub named_codes : List Row → List ℕ
named_codes rows = map (λ (r : Row). r.code) rows

abbrev pub command_codes : List Command → List ℕ
command_codes table = map (λ (k : Command). k.code) table

-- THEOREM (proofs/Commands.antt, `commands_named`): every name's code is a command of the grammar, and every command has a name
pub record CommandsNamed : Type 0 where
  -- between items: the table's commands and 1D, which has no row there
  pub first : (b : ℕ) → Memᴰ b (named_codes (names.common ++ names.i2c ++ names.spi ++ names.one_wire)) ↔ Memᴰ b (0x1D ∷ command_codes commands)
  pub after_1d : (b : ℕ) → Memᴰ b (named_codes names.extended) ↔ Memᴰ b (command_codes extended_commands)
