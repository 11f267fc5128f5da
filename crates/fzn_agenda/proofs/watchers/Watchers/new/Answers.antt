use Rattle.std.proofs.Common.{List, sym, subst}
use Rattle.fzn_domain.specs.IntSet.{IntSet}
use Rattle.fzn_agenda.proofs.watchers.Watchers.new.Goals as goal

pub add_watches-requires : goal.add_watches-requires
add_watches-requires g c =
    let at = c.index-propagators-place.result in
    subst (λ p. (declared : List IntSet) × g.P.Propagator.fits p declared) (sym c.index-propagators-place.is) (c.requires c.loop-place.place at c.loop-place-test.true)
