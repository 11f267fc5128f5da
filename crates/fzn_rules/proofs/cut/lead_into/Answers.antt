use Rattle.std.proofs.Common.{refl, pos, arith}
use Rattle.std.proofs.lemmas.List.Elements.{All-from_get_or}
use Rattle.fzn_rules.specs.Cut.{LeadsInto}
use Rattle.fzn_sets.specs.Terms.{term_at}
use Rattle.fzn_rules.proofs.cut.lead_into.Goals as goal

pub returns : goal.returns
returns c =
    ((λ yes. All-from_get_or (λ place. LeadsInto c.args.sets.now.present c.args.places.now (term_at c.args.successors.now place)) c.args.places.now (pos 0) (λ k below. c.loop-place.invariant k (omega arith))), (λ all. refl))
