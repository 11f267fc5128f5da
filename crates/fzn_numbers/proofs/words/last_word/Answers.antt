use Rattle.std.proofs.Common.{arith, ◌-◌}
use Rattle.fzn_numbers.proofs.BitLemmas.{last_of_words, none_of_last}
use Rattle.fzn_numbers.proofs.words.last_word.Goals as goal

pub returns-then-word-ne0-clause-found : goal.returns-then-word-ne0-clause-found
returns-then-word-ne0-clause-found c =
    let inv = c.loop-at.invariant in
    last_of_words c.args.words.now c.args.end c.loop-at.at inv.none inv.high (omega arith) (c.type_inv.words (c.loop-at.at - 1)).fits c.if-word-ne0.true

pub loop-at-preserved : goal.loop-at-preserved
loop-at-preserved c =
    let inv = c.loop-at.invariant in
    record {
      high = omega arith;
      none = none_of_last c.args.words.now c.args.end c.loop-at.at inv.none inv.high (omega arith) (c.type_inv.words (c.loop-at.at - 1)).fits c.if-word-ne0.false;
    }
