use Rattle.std.proofs.Common.{subst, to_z, w64}
use Rattle.fzn_domain.proofs.DomainLemmas.{real}
use Rattle.fzn_values.specs.declared.term.Term.{Term}
use Rattle.fzn_sets.specs.Terms.{term_at}
use Rattle.fzn_terms.specs.Values.{IsNextValue}
use Rattle.fzn_terms.proofs.NextLemmas.{next_done}
use Rattle.fzn_globals.specs.InversePasses.{MayLeadBack}
use Rattle.fzn_globals.proofs.inverse.pairs.find_pairs.Goals as goal

pub loop-value-preserved : goal.loop-value-preserved
loop-value-preserved c =
    let pass = c.args.pass.now in
    let sets = pass.trail.now.sets in
    let value = to_z w64 c.loop-value.value-bits in
    let i = c.args.i.now in
    let entry = term_at pass.there.now i in
    let next = subst (λ (t : Term). IsNextValue sets t value c.in-Some.next) c.term_at-entry.ensures.value c.in-Some.ensures.found in
    rw (real _ c.in-Some.ensures.in_limits) (record {
      found = c.find_pair.ensures.found;
      kept = λ nothing. c.loop-value.invariant.kept (c.find_pair.ensures.kept nothing);
      member = next.member;
      in_limits = c.in-Some.ensures.in_limits;
      done = λ nothing. next_done (MayLeadBack pass i) sets entry value (c.in_ok-find_pair.ensures.none nothing) (c.loop-value.invariant.done (c.find_pair.ensures.kept nothing)) c.in-Some.next next;
    })
