use Rattle.std.proofs.Common.{arith, refl}
use Rattle.fzn_numbers.proofs.BitLemmas.{next_of_words, none_of_words}
use Rattle.fzn_numbers.proofs.words.next_word.Goals as goal

pub returns-then-word-ne0-clause-found : goal.returns-then-word-ne0-clause-found
returns-then-word-ne0-clause-found c =
    let inv = c.loop-at.invariant in
    next_of_words c.args.words.now c.args.first c.loop-at.at inv.none inv.low (omega arith) (c.type_inv.words c.loop-at.at).fits _ c.if-word-ne0.true refl

pub loop-at-preserved : goal.loop-at-preserved
loop-at-preserved c =
    let inv = c.loop-at.invariant in
    record {
      low = omega arith;
      in_words = omega arith;
      none = none_of_words c.args.words.now c.args.first c.loop-at.at inv.none inv.low (omega arith) (c.type_inv.words c.loop-at.at).fits c.if-word-ne0.false;
    }
