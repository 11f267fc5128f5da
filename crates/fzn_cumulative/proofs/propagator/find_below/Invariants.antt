use Rattle.std.proofs.Common.{◌≡◌, ℕ, ◌<◌, [], negsuc, get_or}
use Rattle.fzn_domain.specs.declared.literal.Op.TheVariants.{AtMost}
use Rattle.fzn_values.specs.declared.term.Term.{Term}
use Rattle.fzn_terms.specs.Denied.{that, IsDenied}
use Rattle.fzn_cumulative.proofs.propagator.find_below.Given as goal
use Rattle.fzn_cumulative.specs.Passes.{AreFoundOfCumulative}

abbrev pub invariant-loop-k : goal.invariant-loop-k
invariant-loop-k l = record {
  found : AreFoundOfCumulative l.pass l.found;
  kept : l.found ≡ [] → l.fn.found ≡ [];
  none : l.found ≡ [] → (k : ℕ) (d : Term) → k < l.k → IsDenied l.pass.trail.now.sets (that (get_or l.terms k d) AtMost (negsuc 0));
}
