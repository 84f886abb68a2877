-- A word is among the parts exactly if a part is the same.
use Rattle.std.proofs.Common.{rules, ◌≡◌, ◌∙◌, sym, ap, ℕ, List, Bool, Decides, nat_eq, eqb}
use mathlib.Core.Bool.{false≢true}
use Rattle.std.specs.List.{list_any}
use Rattle.std.specs.Cmp.Lexicographic.{pointwise}
use Rattle.std.proofs.lemmas.Iterator.Search.{any_from_yields_List}
use Rattle.std.proofs.lemmas.Iterator.Splits.{YieldsList-from_slice_split}
use Rattle.std.proofs.lemmas.Slice.Eq.{bytes_eq-Decides}
use Rattle.input.specs.Arguments.{split_at_spaces}
use Rattle.input.proofs.Words.{parts, among_from_any, any_from_among, among_none}
use Rattle.input.proofs.arguments.has_word.Goals as goal

pub returns-then-not-is_empty : goal.returns-then-not-is_empty
returns-then-not-is_empty c =
    let w = c.args.word.now in
    let test : List ℕ → Bool = λ v. pointwise nat_eq v w in
    let e : c.any.result ≡ list_any test (parts c.stripped.result.now) =
    any_from_yields_List test _ _ _ c.any.ensures.ran
    (YieldsList-from_slice_split _ (λ b. eqb b 0x20) c.stripped.result.now c.split.ensures.rest c.split.ensures.done c.split.ensures.closure (λ x b q k. search rules))
    (λ x b q k. search rules) in
    let s : parts c.stripped.result.now ≡ split_at_spaces c.args.list.now = c.stripped.ensures (search rules) in
    let decides : (v : List ℕ) → Decides (test v) (v ≡ w) = λ v. bytes_eq-Decides v w in
    let r = e ∙ ap (list_any test) s in
    ((λ t. among_from_any w test decides _ (sym r ∙ t)), λ a. r ∙ any_from_among w test decides _ a)

pub returns-else-not-is_empty : goal.returns-else-not-is_empty
returns-else-not-is_empty c =
    rw c.if-not-is_empty.false ((λ t. absurd (false≢true t)), λ a. absurd (among_none c.args.word.now c.args.list.now (search rules) a))
