use Rattle.std.proofs.Common.{arith, refl, [], ◌∷◌}
use Rattle.fzn_numbers.proofs.BitLemmas.{next_in_word, none_in_word}
use Rattle.fzn_numbers.proofs.word.next_bit.Goals as goal

pub returns-then-rest-eq0-clause-none : goal.returns-then-rest-eq0-clause-none
returns-then-rest-eq0-clause-none c k h l =
    none_in_word (c.args.word ∷ []) c.args.from 0 c.args.from (omega arith) (omega arith) (omega arith) c.ranges.word.fits c.if-rest-eq0.true k h l

pub returns-clause-found : goal.returns-clause-found
returns-clause-found c =
    next_in_word (c.args.word ∷ []) c.args.from 0 c.args.from (omega arith) (omega arith) (omega arith) c.ranges.word.fits _ (omega arith) refl
