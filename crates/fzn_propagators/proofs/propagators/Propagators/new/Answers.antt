-- The propagators so far, and one more for the next constraint.
use Rattle.std.proofs.Common.{rules, arith, ℕ, ◌≤◌, subst, length-append}
use Rattle.fzn_propagators.proofs.MadeLemmas.{AreFirst-push, all-fit}
use Rattle.fzn_propagators.proofs.propagators.Propagators.new.Goals as goal

pub loop-i-preserved : goal.loop-i-preserved
loop-i-preserved g c = record {
  one_each = grind (arith, length-append, c.in_ok-push.ensures.ok, c.loop-i.invariant.one_each);
  first =
      AreFirst-push g.P.Propagator.number g.P.Propagator.is_for g.P.Propagator.fits c.args.model.now c.loop-i.i c.loop-i.items c.in_ok-propagator.propagator _ c.in_ok-push.ensures.ok c.loop-i.invariant.one_each c.loop-i.invariant.first
      c.in_ok-propagator.ensures.number c.in_ok-propagator.ensures.is_for c.in_ok-propagator.ensures.fits;
}

pub new-requires : goal.new-requires
new-requires g c =
    let within = subst (λ (n : ℕ). c.loop-i.i ≤ n) c.len-i-end.ensures c.loop-i.auto.i-end in
    all-fit g.P.Propagator.number g.P.Propagator.is_for g.P.Propagator.fits c.args.model.now c.loop-i.i c.loop-i.items c.as_slice.result.now within c.as_slice.ensures c.loop-i.invariant.one_each c.loop-i.invariant.first

pub returns : goal.returns
returns g c = record { items = search rules; found = search rules }
