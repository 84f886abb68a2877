-- A state as a scanner sees it: a device of proof. ERROR, the packet register and the held bytes are not in it.
use Prim.Native.Nat.{◌-◌}
use Rattle.grammar.specs.declared.ContextChange.{ContextChange}
use Rattle.grammar.specs.declared.ContextChange.TheVariants.{Keep, Configure, Resize}
use Rattle.grammar.specs.declared.Place.{Place}
use Rattle.grammar.specs.declared.Place.TheVariants.{Between, Extended, Inside}
use Rattle.grammar.specs.declared.Scanner.{Scanner}
use Rattle.registers.specs.declared.State.{State}
use Rattle.registers.specs.declared.Operand.{Operand}
use Rattle.registers.specs.declared.Operand.TheVariants as o
use Rattle.registers.specs.declared.Wait.{Wait}
use Rattle.registers.specs.declared.Wait.TheVariants as v
use Rattle.bridge.specs.Views.{context_of}

-- what the item that ends with an operand does to the context
abbrev pub operand_change : Operand → ContextChange
operand_change (o.ToPort r) = Keep
operand_change o.ToCycles = Keep
operand_change o.ToI2c = Keep
operand_change o.ToConfig = Configure
operand_change o.ToSize = Resize
operand_change o.ToOneWire = Keep
operand_change o.ToOneWireBit = Keep
operand_change o.ToOneWireStrong = Keep

-- a place counts the bytes after the next, so a wait for so many is inside with one less
abbrev pub place_of : Wait → Place
place_of v.Nothing = Between
place_of (v.One a) = Inside (operand_change a) 0
place_of v.Extended = Extended
place_of (v.Packet left exchange) = Inside Keep (left - 1)
place_of (v.Timings left) = Inside Keep (left - 1)

abbrev pub view_of : State → Scanner
view_of s = record { context = context_of s; place = place_of s.wait }
