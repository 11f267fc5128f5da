use Rattle.fzn_head.proofs.ExtendedLaws.{same-solutions, formed-after}
use Rattle.fzn_head.proofs.law.same_solutions.Goals as goal

pub returns : goal.returns
returns c = record {
  solutions = λ model after derivations values formed few extends. same-solutions model after derivations values formed extends;
  formed = formed-after;
}
