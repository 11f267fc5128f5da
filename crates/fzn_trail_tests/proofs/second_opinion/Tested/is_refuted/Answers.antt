use Rattle.fzn_trail_tests.proofs.CarriedLemmas.{IsCarried-propagated}
use Rattle.fzn_trail_tests.proofs.second_opinion.Tested.is_refuted.Goals as goal

pub returns : goal.returns
returns c =
    IsCarried-propagated c.args.self.now.clauses c.args.self.now.trail c.requires c.propagate.new.self c.propagate.new.trail c.propagate.ensures.same c.propagate.ensures.propagated c.in_ok-propagate.ensures.watching
