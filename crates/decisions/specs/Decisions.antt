-- What an event decides before any sample is read: what changes, which waveform is made and what is answered, each by a name that is
-- declared in src/lib.rt. The clauses of 01's sections are decisions.
use Rattle.std.specs.Prelude.{ℕ}
use Rattle.registers.specs.declared.PortRegister.{PortRegister}
use Rattle.registers.specs.declared.Wait.{Wait}
use Rattle.signals.specs.declared.Waveform.{Waveform}
use Rattle.signals.specs.declared.Waveform.TheVariants as w
pub use Rattle.decisions.specs.declared.Answer.{Answer}
pub use Rattle.decisions.specs.declared.Answer.TheVariants.{Silent, Returns, ReturnsTwice, ReturnsAndSends, Checked, Sends, SendsSample, SendsLevel, SendsEprom, SendsSerial, SendsTimings, SendsPacket, SendsLow, ReturnsThenLow}
pub use Rattle.decisions.specs.declared.Change.{Change}
pub use Rattle.decisions.specs.declared.Change.TheVariants as c
pub use Rattle.decisions.specs.declared.Decision.{Decision}

abbrev pub decision : Change → Waveform → Answer → Decision
decision x wave answer = record { change = x; wave = wave; answer = answer }

-- a code returned, and nothing else
abbrev pub returns : ℕ → Decision
returns code = decision c.Nothing w.Still (Returns code)

-- something sent, and nothing else
abbrev pub sends : Answer → Decision
sends answer = decision c.Nothing w.Still answer

-- a byte dropped: it "ends the drop and does nothing else" (02, Ask 2)
abbrev pub dropped : Decision
dropped = sends Silent

-- a waveform, and 00 returned
abbrev pub performs : Waveform → Decision
performs wave = decision c.Nothing wave (Returns 0x00)

-- 00 returned, and then waited for
abbrev pub awaits : Wait → Decision
awaits v = decision (c.Await v) w.Still (Returns 0x00)

-- the wait ended
abbrev pub ends : Waveform → Answer → Decision
ends wave answer = decision c.EndWait wave answer

-- a port register stored and the wait ended
abbrev pub stores : PortRegister → ℕ → Waveform → Answer → Decision
stores r x wave answer = decision (c.Store r x) wave answer
