-- The start of a session (01, "Session file"): "Start is factory, 00 seven times and FF three, IOG count FF, version and serial 0".
use Rattle.std.specs.Prelude.{◌≡◌, []}
use Rattle.packet.specs.Register.{zeros}
use Rattle.registers.specs.Registers.{serial_bytes}
use Rattle.settings.specs.Images.{factory_image}
use Rattle.grammar.specs.Grammar as grammar
use Rattle.bridge.specs.Edges.{factory_state}
use Rattle.bridge.specs.Views.{context_of}
use Rattle.bridge.specs.declared.Bridge.{Bridge}
use Rattle.switch_on.specs.SwitchOn.{Device, on_state}

abbrev pub factory_device : Device
factory_device = record { cycles = 0xFF; version = 0; serial = zeros serial_bytes }

-- THEOREM (proofs/Start.antt, `factory_start`): switch-on with no stored image gives the start that P1 to P12 are about
abbrev pub FactoryStart : Type 0
FactoryStart = on_state [] factory_image factory_device ≡ factory_state

-- the bridge that a session starts with
abbrev pub starting : Bridge
starting = record { state = on_state [] factory_image factory_device }

-- THEOREM (proofs/Start.antt, `factory_context_lem`): its context is the grammar's factory context
abbrev pub FactoryContext : Type 0
FactoryContext = context_of starting.state ≡ grammar.factory_context
