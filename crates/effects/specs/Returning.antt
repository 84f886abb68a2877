-- The codes that an event returned, as the calls hand them on: each case of the code's enum with its codes, in their order.
use Rattle.std.specs.Prelude.{ℕ, ◌≡◌, List, [], ◌∷◌}
use Rattle.registers.specs.declared.State.{State}
use Rattle.decisions.specs.Said.{codes_of}
use Rattle.decisions.specs.Effects.{said_of}
use Rattle.decisions.specs.declared.Answer.{Answer}
pub use Rattle.effects.specs.declared.Returned.{Returned}
pub use Rattle.effects.specs.declared.Returned.TheVariants.{Nothing, One, Two}

abbrev pub codes_in : Returned → List ℕ
codes_in Nothing = []
codes_in (One a) = a ∷ []
codes_in (Two a b) = a ∷ b ∷ []

-- for the contract of `returned`: the codes of an answer where the samples gave x, whatever the state holds
abbrev pub ReturnedBy : Answer → ℕ → Returned → Type 0
ReturnedBy a x r = (s : State) → codes_in r ≡ codes_of (said_of s x a)
