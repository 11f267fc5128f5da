use Rattle.std.proofs.Common.{[], ◌∷◌, ◌++◌, ℤ, ap, ◌∙◌}
use Rattle.fzn_domain.proofs.DomainLemmas.{real}
use Rattle.fzn_globals.proofs.DifferentLemmas.{members_more}
use Rattle.fzn_globals.proofs.all_different.values_of.Goals as goal

pub loop-k-preserved : goal.loop-k-preserved
loop-k-preserved c =
    let found = c.loop-k.values.items in
    members_more c.args.pass.now.trail.now.sets c.args.pass.now.places.now found c.push.new.self.items c.loop-k.k c.least_of.result c.loop-k.invariant
    (c.in_ok-push.ensures.items ∙ ap (λ (v : ℤ). found ++ v ∷ []) (real _ c.least_of.ensures.in_limits))
    c.least_of.ensures.member
