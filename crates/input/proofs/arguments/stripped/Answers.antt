-- A space at the end is stripped, or there is none.
use Rattle.std.proofs.Common.{[], ◌∷◌}
use Rattle.std.proofs.lemmas.Bool.Decides.{Decides-eqb}
use Rattle.std.proofs.lemmas.Slice.Eq.{strip_suffix_is}
use Rattle.input.proofs.Words.{words_stripped}
use Rattle.input.proofs.arguments.stripped.Goals as goal

pub returns : goal.returns
returns c =
    λ h. rw c.unwrap_or.ensures (words_stripped c.args.list c.strip_suffix.result (strip_suffix_is Decides-eqb c.args.list.now (0x20 ∷ []) c.strip_suffix.result c.strip_suffix.ensures.cases) h)
