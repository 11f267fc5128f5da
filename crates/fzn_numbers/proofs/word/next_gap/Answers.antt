use Rattle.std.proofs.Common.{arith, refl, [], ◌∷◌}
use Rattle.fzn_numbers.proofs.BitLemmas.{gap_in_word}
use Rattle.fzn_numbers.proofs.WordLemmas.{gap_behind_word}
use Rattle.fzn_numbers.proofs.word.next_gap.Goals as goal

pub returns-then-rest-eq0 : goal.returns-then-rest-eq0
returns-then-rest-eq0 c = gap_behind_word c.args.word c.args.from c.requires c.ranges.word.fits c.if-rest-eq0.true

pub returns : goal.returns
returns c = gap_in_word (c.args.word ∷ []) c.args.from 0 c.args.from _ (omega arith) c.requires (omega arith) c.ranges.word.fits refl _ (omega arith) refl
