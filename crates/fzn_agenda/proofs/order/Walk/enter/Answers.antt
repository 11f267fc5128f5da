use Rattle.std.proofs.Common.{List, sym, subst}
use Rattle.fzn_domain.specs.IntSet.{IntSet}
use Rattle.fzn_agenda.proofs.order.Walk.enter.Goals as goal

pub raise-requires : goal.raise-requires
raise-requires g c =
    let at = c.index-propagators-place.result in
    subst (λ p. (declared : List IntSet) × g.P.Propagator.fits p declared) (sym c.index-propagators-place.is) (c.requires c.args.place at c.if-place-propagators.true)
