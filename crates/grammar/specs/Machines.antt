-- Demand 3: what a list of calls, each of which hands over one byte, has to do with the grammar. Stated of any machine.
use Rattle.std.specs.Prelude.{ℕ, ◌<◌, ◌≡◌, Bool, true, false, cond, List, [], ◌∷◌, map, ◌↔◌, get_or}
use Rattle.codes.specs.Codes.{any_rejecting}
use Rattle.grammar.specs.Grammar.{Context, Division, Orderly, Continuable}
use Rattle.grammar.specs.Verdict.{FirstWrong, CodeAt}

-- a machine that takes a byte and what is lent to it, and answers
pub record Machine : Type 1 where
  pub State : Type 0
  pub Lent : Type 0
  -- the state breaks no range, and no byte is to be dropped
  pub Good : State → Type 0
  -- the state waits for nothing
  pub Idle : State → Type 0
  -- the grammar's context of a state
  pub context : State → Context
  -- the call is refused
  pub refuses : State → ℕ → Lent → Bool
  -- the codes that a call not refused returns
  pub codes : State → ℕ → Lent → List ℕ
  -- the state that the call returns
  pub next : State → ℕ → Lent → State

-- THE LIST OF CALLS: the state goes on from call to call as it was returned

module _ (M : Machine) where
  pub record Call : Type 0 where
    pub byte : ℕ
    pub fits : byte < 256
    pub lent : M.Lent

  -- the byte of a call not refused, and the codes that it returned
  pub record NotRefused : Type 0 where
    pub byte : ℕ
    pub codes : List ℕ

  abbrev pub after_call : M.State → Call → M.State
  after_call s k = M.next s k.byte k.lent

  abbrev pub not_refused : M.State → List Call → List NotRefused
  not_refused s [] = []
  not_refused s (k ∷ ks) =
      cond (M.refuses s k.byte k.lent)
      (not_refused (after_call s k) ks)
      (record { byte = k.byte; codes = M.codes s k.byte k.lent } ∷ not_refused (after_call s k) ks)

  -- the state after the list
  abbrev pub final : M.State → List Call → M.State
  final s [] = s
  final s (k ∷ ks) = final (after_call s k) ks

  abbrev pub bytes : List NotRefused → List ℕ
  bytes ts = map (λ (t : NotRefused). t.byte) ts

  abbrev pub told : List NotRefused → List (List ℕ)
  told ts = map (λ (t : NotRefused). t.codes) ts

-- whether the byte at a place was rejected, by the codes that each returned; past the end nothing is
abbrev pub was_rejected : List (List ℕ) → ℕ → Bool
was_rejected cs j = any_rejecting (get_or cs j [])

abbrev pub NoneRejected : List (List ℕ) → Type 0
NoneRejected cs = (j : ℕ) → was_rejected cs j ≡ false

abbrev pub FirstRejected : List (List ℕ) → ℕ → Type 0
FirstRejected cs k = (was_rejected cs k ≡ true) × ((j : ℕ) → j < k → was_rejected cs j ≡ false)

-- the byte at a place returned one code, w
abbrev pub ReturnedAt : List (List ℕ) → ℕ → ℕ → Type 0
ReturnedAt cs k w = get_or cs k [] ≡ w ∷ []

-- DEMAND 3, of one list of calls from a state s (proofs/Demand3.antt, `demand_3`, of every machine that follows the scanner)
pub record Demand3 (M : Machine) (s : M.State) (ks : List (Call M)) : Type 0 where
  pub none_rejected : NoneRejected (told M (not_refused M s ks)) ↔ Continuable (M.context s) (bytes M (not_refused M s ks))
  pub first_rejected : (k : ℕ) → FirstRejected (told M (not_refused M s ks)) k ↔ FirstWrong (M.context s) (bytes M (not_refused M s ks)) k
  -- the code returned at the first rejected place is the one that the bytes give (02, Ask 1)
  pub first_code : (k w : ℕ) → (FirstRejected (told M (not_refused M s ks)) k × ReturnedAt (told M (not_refused M s ks)) k w)
      ↔ (FirstWrong (M.context s) (bytes M (not_refused M s ks)) k × CodeAt (M.context s) (bytes M (not_refused M s ks)) k w)
  pub waits_for_nothing : (M.Idle (final M s ks) × NoneRejected (told M (not_refused M s ks))) ↔ Orderly (M.context s) (bytes M (not_refused M s ks))
  pub divided_once : (p q : Division (M.context s) (bytes M (not_refused M s ks))) → p.0 ≡ q.0
