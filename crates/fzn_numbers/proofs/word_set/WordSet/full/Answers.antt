use Rattle.std.proofs.Common.{ℤ, [], ◌∷◌, ap, ◌∙◌}
use Rattle.fzn_numbers.specs.Bits.{members}
use Rattle.fzn_numbers.proofs.NumberLemmas.{real}
use Rattle.fzn_numbers.proofs.BitSetLemmas.{members-full}
use Rattle.fzn_numbers.proofs.word_set.WordSet.full.Goals as goal

pub returns : goal.returns
returns c = ap (λ (f : ℤ). members f (18446744073709551615 ∷ [])) (real _ c.requires) ∙ members-full c.args.low 1
