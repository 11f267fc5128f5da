use Rattle.std.proofs.Common.{int_lt, rules, of_calls}
use Rattle.std.proofs.lemmas.Fn.{always_returns_same}
use Rattle.fzn_numbers.proofs.AscendingLemmas.{tested_below, tested_above, below_first}
use Rattle.fzn_numbers.proofs.value_list.place_of.Goals as goal

pub returns : goal.returns
returns c =
    let point = c.partition_point.ensures.partitioned (λ v. int_lt v c.args.bound) (always_returns_same _ _ _ (λ a r f q. search (rules, of_calls))) (below_first c.args.values.now c.args.bound c.requires) in
    record {
      in_list = c.partition_point.ensures.bound;
      before = λ k d low high. tested_below _ _ (point.0 k d low high);
      after = λ k d low high. tested_above _ _ (point.1 k d low high);
    }
