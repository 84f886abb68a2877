-- The code that the device returns at a wrong byte (02, Ask 1), by the context and the bytes alone, without the bridge.
use Rattle.std.specs.Prelude.{ℕ, ◌≡◌, cond}
use mathlib.Core.List.{List, [], ◌∷◌, ◌++◌, Memᴰ}
use Rattle.codes.specs.Codes.{no_configuration, unknown_command, wrong_interface}
use Rattle.grammar.specs.Grammar.{SPI, Context, Needs, Common, Selected, Configured, Command, commands, selected, Items, join}

-- of a command that is not legal, by what it needs: "A command that 01 lists for an interface not selected returns the new device code
-- 84"; "with SPI selected 40 stays". A common one is always legal.
abbrev pub code_for : Needs → Context → ℕ
code_for Common c = unknown_command
code_for (Selected i) c = wrong_interface
code_for Configured c = cond (selected SPI c) no_configuration wrong_interface

-- of a byte that is wrong after these bytes, which are items from the context c on, or such and 1D
pub data WrongCode (c : Context) : List ℕ → ℕ → ℕ → Type 0 where
  listed : {xs : List (List ℕ)} {d : Context} → Items c xs d → (k : Command) → Memᴰ k commands → WrongCode c (join xs) k.code (code_for k.needs d)
  -- "every other byte that 01 answers with 80 .. keeps 80"
  unlisted : {xs : List (List ℕ)} {d : Context} → Items c xs d → (b : ℕ) → ((k : Command) → Memᴰ k commands → ¬ (k.code ≡ b)) → WrongCode c (join xs) b unknown_command
  -- "and any such after 1D"
  after_1d : {xs : List (List ℕ)} {d : Context} → Items c xs d → (b : ℕ) → WrongCode c (join xs ++ 0x1D ∷ []) b unknown_command
