-- For the contracts of private functions alone, which look a byte up without building its row: no statement speaks of these.
use Rattle.std.specs.Prelude.{ℕ, Bool, true, false}
use Rattle.codes.specs.Codes.{unknown_command}
use Rattle.grammar.specs.Grammar.{Interface, SPI, Context, Needs, Common, Selected, Configured, ContextChange, Keep, is_same, legal}
use Rattle.grammar.specs.WrongCode.{code_for}
use Rattle.grammar.specs.Scanner.{Opening, Unknown, Known, Extension}

-- whether the scanner accepts it
abbrev pub accepts : Opening → Context → Bool
accepts Unknown c = false
accepts (Known k) c = legal k.needs c
accepts Extension c = true

-- whether it is a command of an interface
abbrev pub is_needed : Interface → Needs → Bool
is_needed i Common = false
is_needed i (Selected j) = is_same i j
is_needed i Configured = is_same i SPI

abbrev pub is_of : Interface → Opening → Bool
is_of i Unknown = false
is_of i (Known k) = is_needed i k.needs
is_of i Extension = false

abbrev pub is_configured : Needs → Bool
is_configured Common = false
is_configured (Selected i) = false
is_configured Configured = true

abbrev pub needs_configured : Opening → Bool
needs_configured Unknown = false
needs_configured (Known k) = is_configured k.needs
needs_configured Extension = false

-- the code for it where it is not accepted; 1D always is
abbrev pub code_of : Opening → Context → ℕ
code_of Unknown c = unknown_command
code_of (Known k) c = code_for k.needs c
code_of Extension c = unknown_command

-- what it does to the context; 1D by itself does nothing
abbrev pub change_of : Opening → ContextChange
change_of Unknown = Keep
change_of (Known k) = k.change
change_of Extension = Keep
