use Rattle.std.proofs.Common.{◌+◌, ◌*◌, arith, bit_and, get_or, w64}
use Rattle.std.specs.Int.{trailing_zeros}
use Rattle.fzn_table.proofs.WordsLemmas.{found_in_word, none_common}
use Rattle.fzn_table.proofs.words.first_common.Goals as goal

pub returns-then-both-ne0-clause-found : goal.returns-then-both-ne0-clause-found
returns-then-both-ne0-clause-found c =
    let words = c.args.words.now in
    let others = c.args.others.now in
    let q = c.loop-i.i in (
      q * 64 + trailing_zeros w64 (bit_and (get_or words q 0) (get_or others q 0)),
      (found_in_word words others q c.loop-i.invariant (c.type_inv.words q).fits (c.type_inv.others q).fits c.if-both-ne0.true, omega arith),
    )

pub returns-clause-none : goal.returns-clause-none
returns-clause-none c = none_common c.args.words.now c.args.others.now c.loop-i.i (omega arith) c.loop-i.invariant
