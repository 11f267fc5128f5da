use Rattle.std.proofs.Common.{List, Option, subst, ◌≤ℤ◌, IfNone}
use Rattle.std.proofs.lemmas.Option.{IfSome_then}
use Rattle.fzn_domain.specs.declared.literal.Lit.{Lit}
use Rattle.fzn_builtin_rules.specs.Linear.{least_sum}
use Rattle.fzn_linear.proofs.PassLemmas.{ok_then}
use Rattle.fzn_linear.proofs.RefuteLemmas.{cause_of_excess}
use Rattle.fzn_linear.proofs.side.Side.exceed.Goals as goal

pub hand_over-requires : goal.hand_over-requires
hand_over-requires c = IfSome_then c.in_ok-clause.clause c.in_ok-clause.ensures.found (λ clause conflict. cause_of_excess c.args.self.now clause c.args.part.now c.requires conflict)

pub returns-clause-none : goal.returns-clause-none
returns-clause-none c =
    ok_then c.hand_over.result c.hand_over.ensures.none
    (λ none empty. subst (λ (f : Option (List Lit)). IfNone f (least_sum c.args.part.now.trail.now.sets c.args.part.now.places.now ≤ℤ c.args.part.now.bound)) (none empty) c.in_ok-clause.ensures.none)
