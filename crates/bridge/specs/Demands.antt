-- The three demands on the bridge's call, over the definition that the contract of `step` cites (Answering.antt). Open this file first.
-- Proofs: `demand_1` in proofs/Demand1.antt, `demand_2` in proofs/Demand2.antt, `demand_3` in proofs/Demand3.antt.
-- What an event does, `effect_of`, is in decisions/specs/Events.antt, which names the files of the clauses: a command's in Common, Extended,
-- I2c, Spi or OneWire, an operand's, a packet's or a timing byte's in Operands, a rejected byte's in Rejections. Which command a byte is and
-- whether it is legal is in commands/specs/Commands.antt and Legality.antt. What a waveform uses of the samples, `used`, is in its bus's
-- definitions: i2c_bus/specs/I2c.antt, spi_bus/specs/Spi.antt, one_wire_bus/specs/OneWire.antt, and lines/specs/Waves.antt for single
-- lines and ports.
use Rattle.std.specs.Prelude.{ℕ, ◌+◌, ◌-◌, ◌*◌, ◌<◌, ◌≡◌, Bool, true, false, List, [], ◌∷◌, ◌++◌, ◌↔◌, ◌⊎◌, length, take, drop, Result, Ok, Err, is_err}
use Rattle.wire.specs.Action.{bytes_of}
use Rattle.codes.specs.Codes.{rejecting, any_rejecting}
use Rattle.wire.specs.Sample.{samplings, SameFrom}
use Rattle.registers.specs.Registers.{with_page, with_error}
use Rattle.registers.specs.Ranges.{InRange, BetweenCommands, Sized}
use Rattle.registers.specs.declared.Event.{Event}
use Rattle.registers.specs.declared.Event.TheVariants as e
use Rattle.registers.specs.declared.Wait.TheVariants as v
use Rattle.decisions.specs.Said.{codes_of}
use Rattle.decisions.specs.Effects.{sent_by}
use Rattle.grammar.specs.Machines.{Machine, Call}
use Rattle.grammar.specs.Machines as grammar
use Rattle.grammar.specs.Following.{Leads}
use Rattle.grammar.specs.declared.Verdict.TheVariants.{Wrong}
use Rattle.refusals.specs.Refusals.{number_of}
use Rattle.refusals.specs.declared.Refusal.{Refusal}
use Rattle.refusals.specs.declared.Refusal.TheVariants.{Ranges, Samples, Actions, Replies, Header, Length, Passes, Kind, FaultBody, Size, Factory, Waits}
use Rattle.bridge.specs.Answering.{Bridge, Lent, effect, refused, accepted, answer_of}
use Rattle.bridge.specs.Views.{context_of}
use Rattle.bridge.specs.Judging.{judgement_of}

abbrev pub outcome : Bridge → Event → Lent → Result (Unit {0}) Refusal
outcome b e l = (answer_of b e l).answer.outcome

-- DEMAND 1: "Any event, in any state, with any lent samples and buffers, gets a fixed answer". The answer is a total function;
-- what remains is exactly when each refusal is given.

-- fewer are left after the mark than are needed; "A mark (in bytes) past the end .. even if nothing is needed"
abbrev pub TooFew : List ℕ → ℕ → ℕ → Type 0
TooFew bytes mark need = (length bytes < mark) ⊎ (length bytes - mark < need)

-- the table of refusals: when each applies to a call
abbrev pub Applies : Bridge → Event → Lent → Refusal → Type 0
-- 1 "the state breaks its ranges"
Applies b e l Ranges = ¬ InRange b.state
-- 2 "fewer samples are left than the event uses"
Applies b e l Samples = TooFew l.samples l.sampled (effect b e l).used
-- 3 "the actions do not fit"
Applies b e l Actions = TooFew l.actions l.acted (length (bytes_of (effect b e l).actions))
-- 4 "the replies do not fit"
Applies b e l Replies = TooFew l.replies l.replied (length (sent_by (effect b e l)))
-- 5 to 10 are a session's, 11 is switch-on's and 12 the judge's
Applies b e l Header = ⊥
Applies b e l Length = ⊥
Applies b e l Passes = ⊥
Applies b e l Kind = ⊥
Applies b e l FaultBody = ⊥
Applies b e l Size = ⊥
Applies b e l Factory = ⊥
Applies b e l Waits = ⊥

-- "The lowest number that applies is given"
abbrev pub Lowest : Bridge → Event → Lent → Refusal → Type 0
Lowest b e l r = Applies b e l r × ((q : Refusal) → number_of q < number_of r → ¬ Applies b e l q)

pub record Demand1 (b : Bridge) (e : Event) (l : Lent) : Type 0 where
  pub exactly_when : (r : Refusal) → (outcome b e l ≡ Err r) ↔ Lowest b e l r
  pub taken_otherwise : (outcome b e l ≡ Ok tt) ↔ ((r : Refusal) → ¬ Applies b e l r)
  -- "the state it was given, no counts, and every lent byte unchanged"
  pub leaves : (r : Refusal) → outcome b e l ≡ Err r → answer_of b e l ≡ refused b l r

-- DEMAND 2: for every event not refused, all is as the clauses of 01 say

-- a buffer with bytes written from its mark; "bytes before and beyond are untouched"
abbrev pub filled : List ℕ → ℕ → List ℕ → List ℕ
filled bytes mark xs = take mark bytes ++ xs ++ drop (mark + length xs) bytes

-- "A rejected byte changes the error register, nothing else of the state, and moves no pin." ERROR then holds the one code that it
-- returned: "a rejected byte now returns one of the three" (02, Ask 1), 80, 84 or 40.
pub record OnlyErrorChanged (b : Bridge) (e : Event) (l : Lent) : Type 0 where
  pub code : ℕ
  pub returned : (answer_of b e l).answer.codes ≡ code ∷ []
  pub rejects : rejecting code ≡ true
  pub state : (answer_of b e l).answer.bridge.state ≡ with_page b.state (with_error b.state.page code)
  pub no_action : (answer_of b e l).answer.actions ≡ 0
  pub no_sample : (answer_of b e l).answer.samples ≡ 0
  pub pins : (answer_of b e l).actions ≡ l.actions

pub record Demand2 (b : Bridge) (e : Event) (l : Lent) : Type 0 where
  pub gives : outcome b e l ≡ Ok tt → answer_of b e l ≡ accepted (effect b e l) l
  pub actions_written : outcome b e l ≡ Ok tt → (answer_of b e l).actions ≡ filled l.actions l.acted (bytes_of (effect b e l).actions)
  pub replies_written : outcome b e l ≡ Ok tt → (answer_of b e l).replies ≡ filled l.replies l.replied (sent_by (effect b e l))
  -- the counts are of what was written and used: four bytes an action, a byte a reply byte
  pub actions_counted : outcome b e l ≡ Ok tt → 4 * (answer_of b e l).answer.actions ≡ length (bytes_of (effect b e l).actions)
  pub replies_counted : outcome b e l ≡ Ok tt → (answer_of b e l).answer.replies ≡ length (sent_by (effect b e l))
  pub samples_counted : outcome b e l ≡ Ok tt → (answer_of b e l).answer.samples ≡ (effect b e l).used
  -- and the samples used are those taken, by the actions with verb 3 or 7 (`Sized`: an array of the state has its size)
  pub samples_taken : Sized b.state → outcome b e l ≡ Ok tt → (answer_of b e l).answer.samples ≡ samplings (effect b e l).actions
  -- the codes are those returned
  pub codes_returned : outcome b e l ≡ Ok tt → (answer_of b e l).answer.codes ≡ codes_of (effect b e l).said
  pub rejected : outcome b e l ≡ Ok tt → any_rejecting (answer_of b e l).answer.codes ≡ true → OnlyErrorChanged b e l

-- THEOREM (proofs/Demand2.antt, `same_samples`): two calls whose samples agree, on the places that the first one uses and from the
-- marks on, do the same; so no sample is used but those counted
pub record SameSamples (b : Bridge) (e : Event) (l k : Lent) : Type 0 where
  pub effects : SameFrom (effect b e l).used l.samples l.sampled k.samples k.sampled → effect b e l ≡ effect b e k
  pub answers : outcome b e l ≡ Ok tt → outcome b e k ≡ Ok tt → SameFrom (answer_of b e l).answer.samples l.samples l.sampled k.samples k.sampled → (answer_of b e l).answer ≡ (answer_of b e k).answer

-- DEMAND 3: one statement about every list of calls that each hand over one byte, whatever is lent, refused ones included

-- the bridge as the grammar's statement sees it: its calls are the answers of `step`, the bridge handed on as it was returned
abbrev pub machine : Machine
machine = record {
  State = Bridge;
  Lent = Lent;
  Good = λ b. InRange b.state × (b.state.drop ≡ false);
  Idle = λ b. b.state.wait ≡ v.Nothing;
  context = λ b. context_of b.state;
  refuses = λ b x l. is_err (outcome b (e.Byte x) l);
  codes = λ b x l. (answer_of b (e.Byte x) l).answer.codes;
  next = λ b x l. (answer_of b (e.Byte x) l).answer.bridge;
}

-- "A start between commands breaks no range and waits for nothing", and "Demand 3 starts with no drop pending" (02, Ask 2)
abbrev pub Demand3 : Type 0
Demand3 = (b : Bridge) → BetweenCommands b.state → (ks : List (Call machine)) → grammar.Demand3 machine b ks

-- THEOREM (proofs/Demand3.antt, `no_drop_made`): no list of bytes makes a drop
abbrev pub NoDropMade : Type 0
NoDropMade = (b : Bridge) → b.state.drop ≡ false → (ks : List (Call machine)) → (grammar.final machine b ks).state.drop ≡ false

-- THEOREM (proofs/Demand3.antt, `code_foretold`): over the same lists, the judge's call says that the bytes taken are wrong at k with the
-- code w exactly if the first rejected call is the one that handed over byte k, and w is the code that it returned; "The judge's wrong
-- verdict also carries the code the bridge would return there: 80, 84 or 40" (02, Ask 1)
abbrev pub bytes_taken : Bridge → List (Call machine) → List ℕ
bytes_taken b ks = grammar.bytes machine (grammar.not_refused machine b ks)

abbrev pub codes_told : Bridge → List (Call machine) → List (List ℕ)
codes_told b ks = grammar.told machine (grammar.not_refused machine b ks)

abbrev pub CodeForetold : Type 0
CodeForetold = (b : Bridge) → BetweenCommands b.state → (ks : List (Call machine)) (k w : ℕ)
    → (judgement_of b (bytes_taken b ks) ≡ Ok (Wrong k w)) ↔ (grammar.FirstRejected (codes_told b ks) k × grammar.ReturnedAt (codes_told b ks) k w)

-- THEOREM (proofs/Demand3.antt, `context_followed`): after any such list the context is where the grammar leads by the bytes taken
-- alone, rejected ones among them; so a writer of command streams can count a packet's bytes without a bridge
abbrev pub ContextFollowed : Type 0
ContextFollowed = (b : Bridge) → BetweenCommands b.state → (ks : List (Call machine)) → Leads machine b ks
