-- The judge (01, "Grammar"): its answer, what 01 says of each case of it, and the theorems that tie the scanner and the
-- judge to the grammar.
use Rattle.std.specs.Prelude.{ℕ, suc, ◌<◌, ◌≡◌, List, ◌↔◌, length, take, get_or, true}
use Rattle.codes.specs.Codes.{rejecting}
use Rattle.grammar.specs.Grammar.{Context, Orderly, Continuable}
use Rattle.grammar.specs.WrongCode.{WrongCode}
use Rattle.grammar.specs.Scanner.{Place, Between, Extended, Inside, Scanner, between, Course, through, rejected_at, scan_all}
pub use Rattle.grammar.specs.declared.Verdict.{Verdict}
pub use Rattle.grammar.specs.declared.Verdict.TheVariants.{Whole, Open, Wrong}

-- "place k, the smallest for which the first k + 1 bytes can't"
abbrev pub SmallestWrong : Context → List ℕ → ℕ → Type 0
SmallestWrong c bs k = (k < length bs) × (¬ Continuable c (take (suc k) bs)) × ((j : ℕ) → j < k → Continuable c (take (suc j) bs))

-- "The judge's wrong verdict also carries the code the bridge would return there" (02, Ask 1)
abbrev pub CodeAt : Context → List ℕ → ℕ → ℕ → Type 0
CodeAt c bs k w = WrongCode c (take k bs) (get_or bs k 0) w

-- what 01 says where the judge answers v: "whole exactly if they are orderly, open exactly if they are not but can be
-- continued to be, else wrong at place k"
abbrev pub Says : Context → List ℕ → Verdict → Type 0
Says c bs Whole = Orderly c bs
Says c bs Open = (¬ Orderly c bs) × Continuable c bs
Says c bs (Wrong k w) = SmallestWrong c bs k × CodeAt c bs k w

-- THE JUDGE'S ANSWER
abbrev pub at_end : Place → Verdict
at_end Between = Whole
at_end Extended = Open
at_end (Inside e n) = Open

abbrev pub verdict : Course → Verdict
verdict (through g) = at_end g.place
verdict (rejected_at k w) = Wrong k w

abbrev pub judge_of : Context → List ℕ → Verdict
judge_of c bs = verdict (scan_all (between c) bs)

-- THEOREM (proofs/Verdicts.antt, `judge_right`): the judge's answers are 01's, and they exclude each other
pub record Judged (c : Context) (bs : List ℕ) : Type 0 where
  pub answers : (v : Verdict) → (judge_of c bs ≡ v) ↔ Says c bs v
  pub exclude : (v w : Verdict) → Says c bs v → Says c bs w → v ≡ w

-- the first k bytes can be continued, and with byte k they can't
abbrev pub FirstWrong : Context → List ℕ → ℕ → Type 0
FirstWrong c bs k = (k < length bs) × Continuable c (take k bs) × ¬ Continuable c (take (suc k) bs)

-- THEOREM (proofs/Decides.antt, `decides`): the scanner decides what is orderly and what can be continued, and stops at the
-- first wrong place with the code there, which is 80, 84 or 40
pub record Decided (c : Context) (bs : List ℕ) : Type 0 where
  pub orderly : Orderly c bs ↔ ((d : Context) × (scan_all (between c) bs ≡ through (between d)))
  pub continuable : Continuable c bs ↔ ((g : Scanner) × (scan_all (between c) bs ≡ through g))
  pub wrong : (k : ℕ) → FirstWrong c bs k ↔ ((w : ℕ) × (scan_all (between c) bs ≡ rejected_at k w))
  pub code : (k w : ℕ) → (FirstWrong c bs k × CodeAt c bs k w) ↔ (scan_all (between c) bs ≡ rejected_at k w)
  pub rejects : (k w : ℕ) → scan_all (between c) bs ≡ rejected_at k w → rejecting w ≡ true
