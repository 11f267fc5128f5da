use Rattle.std.proofs.Common.{arith, refl}
use Rattle.fzn_numbers.proofs.BitLemmas.{gap_of_words, all_of_words}
use Rattle.fzn_numbers.proofs.words.next_word_with_gap.Goals as goal

pub returns-then-rest-ne0 : goal.returns-then-rest-ne0
returns-then-rest-ne0 c =
    let inv = c.loop-at.invariant in
    gap_of_words c.args.words.now c.args.first c.loop-at.at _ inv.all inv.low (omega arith) (c.type_inv.words c.loop-at.at).fits refl _ c.if-rest-ne0.true refl

pub loop-at-preserved : goal.loop-at-preserved
loop-at-preserved c =
    let inv = c.loop-at.invariant in
    record {
      low = omega arith;
      in_words = omega arith;
      all = all_of_words c.args.words.now c.args.first c.loop-at.at _ inv.all inv.low (omega arith) (c.type_inv.words c.loop-at.at).fits refl c.if-rest-ne0.false;
    }
