-- The commands of I2C (01, "I2C"); what they do on the lines is in the bus's definitions.
use Rattle.wire.specs.Action.{cs}
use Rattle.registers.specs.declared.Operand.TheVariants as o
use Rattle.registers.specs.declared.Wait.TheVariants as v
use Rattle.signals.specs.declared.Waveform.TheVariants as w
use Rattle.decisions.specs.Decisions.{Decision, SendsSample, SendsLevel, decision, performs, awaits}
use Rattle.decisions.specs.declared.Change.TheVariants as c
use Rattle.commands.specs.declared.I2cCommand.{I2cCommand}
use Rattle.commands.specs.declared.I2cCommand.TheVariants as k

abbrev pub i2c_clause : I2cCommand → Decision
i2c_clause k.SendStart = performs w.Start
i2c_clause k.SendStop = performs w.Stop
i2c_clause k.SendByte = awaits (v.One o.ToI2c)
i2c_clause (k.ReadByte answer) = decision c.Nothing (w.ReadI2c answer) SendsSample
i2c_clause (k.DriveCs verb) = performs (w.Line verb cs)
i2c_clause k.ReadCs = decision c.Nothing (w.SampleLine cs) SendsLevel
