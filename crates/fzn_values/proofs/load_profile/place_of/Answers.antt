use Rattle.std.proofs.Common.{int_lt, rules, of_calls}
use Rattle.std.proofs.lemmas.Fn.{always_returns_same}
use Rattle.fzn_values.proofs.LoadProfileLemmas.{before_first, tested_before, tested_from}
use Rattle.fzn_values.proofs.load_profile.place_of.Goals as goal

pub returns : goal.returns
returns g c =
    let point = c.partition_point.ensures.partitioned (λ t. int_lt t c.args.time) (always_returns_same _ _ _ (λ a r f q. search (rules, of_calls))) (before_first c.args.times.now c.args.time c.requires.order) in
    record {
      in_list = c.partition_point.ensures.bound;
      before = λ k d low high. tested_before _ _ (point.0 k d low high);
      after = λ k d low high. tested_from _ _ (point.1 k d low high);
    }
