use Rattle.std.proofs.Common.{subst, sym}
use Rattle.fzn_trail_tests.specs.Carried.{IsCarried}
use Rattle.fzn_trail_tests.proofs.CarriedLemmas.{IsCarried-returned}
use Rattle.fzn_trail_tests.proofs.second_opinion.Tested.go_back.Goals as goal

pub returns : goal.returns
returns c =
    subst (IsCarried c.args.self.now.clauses) (sym c.back_to.ensures) (IsCarried-returned c.args.self.now.clauses c.args.self.now.trail c.requires.carried c.args.level)
