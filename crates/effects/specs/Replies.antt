-- For the contracts of `respond`, `reply_size` and `put_reply`, which go by a name for the reply bytes; 01 does not speak of it.
use Rattle.std.specs.Prelude.{List, [], ◌∷◌, ℕ, ◌≡◌, cond}
use Rattle.packet.specs.Packet.{low_bytes}
use Rattle.registers.specs.Registers.{reports_on, bits_in, with_page, with_error}
use Rattle.registers.specs.declared.State.{State}
use Rattle.decisions.specs.Said.{Said, replies_of}
use Rattle.decisions.specs.Effects.{with_error_of}
pub use Rattle.effects.specs.declared.Reply.{Reply}
pub use Rattle.effects.specs.declared.Reply.TheVariants as l
pub use Rattle.effects.specs.declared.Responded.{Responded}

abbrev pub reply_bytes : State → Reply → List ℕ
reply_bytes s l.Empty = []
reply_bytes s (l.One a) = a ∷ []
reply_bytes s (l.Two a b) = a ∷ b ∷ []
reply_bytes s l.Eprom = s.shared.eprom
reply_bytes s l.Serial = s.shared.serial
reply_bytes s l.Timings = s.page.timings
reply_bytes s l.Packet = s.page.packet
reply_bytes s l.Low = low_bytes (bits_in s.page) s.page.packet
reply_bytes s (l.OneThenLow a) = a ∷ low_bytes (bits_in s.page) s.page.packet

-- for the contract of `store`: ERROR has the code, and the reply goes by the reports
pub record IsStored (s : State) (code : ℕ) (on off : Reply) (r : Responded) : Type 0 where
  pub state : r.state ≡ with_page s (with_error s.page code)
  pub reply : r.reply ≡ cond (reports_on s.page.flags) on off

-- a state and the bytes sent
pub record Response : Type 0 where
  pub state : State
  pub replies : List ℕ

abbrev pub response : State → List ℕ → Response
response s xs = record { state = s; replies = xs }

-- what is said, in a state: "if REPORTS_EN is set after the command"
abbrev pub response_of : State → List Said → Response
response_of s xs = response (with_error_of s xs) (replies_of (reports_on s.page.flags) xs)
