use Rattle.std.proofs.Common.{rules, ◌≡◌, ◌∷◌, [], ◌++◌, ◌<◌, List, length, arith, ap, ap₂, sym, subst, ◌∙◌, ℤ, w64, to_z, of_z, FitsSigned}
use Rattle.std.proofs.lemmas.Int.{to_z-of_z}
use Rattle.std.proofs.lemmas.List.{length-append}
use Rattle.fzn_domain.specs.declared.literal.Op.TheVariants.{Equal}
use Rattle.fzn_values.specs.declared.term.Term.{Term}
use Rattle.fzn_sets.specs.Terms.{term_at}
use Rattle.fzn_terms.specs.declared.claim.Claim.{Claim}
use Rattle.fzn_terms.specs.Denied.{that, IsEntailed, IsClaimExplained}
use Rattle.fzn_terms.proofs.CaseLemmas.{same_of}
use Rattle.fzn_circuit.specs.Circuits.{IsWay}
use Rattle.fzn_circuit.proofs.CircuitLemmas.{all_fixed}
use Rattle.fzn_circuit.proofs.WayLemmas.{way_step, comes_back}
use Rattle.fzn_circuit.proofs.circuit.follow.Goals as goal

pub returns-then-next-start-clause-end : goal.returns-then-next-start-clause-end
returns-then-next-start-clause-end c =
    let trail = c.args.pass.now.trail.now in
    let fits_next : FitsSigned w64 c.in-Some.next = search rules in
    let fits_start : FitsSigned w64 c.args.start = search rules in
    let start_is : to_z w64 (of_z w64 c.args.start) ≡ c.args.start = to_z-of_z w64 c.args.start fits_start in
    let way = subst (λ (x : ℤ). IsWay trail c.args.pass.now.successors.now x (to_z w64 c.loop-count.last-bits) c.loop-count.places.items c.loop-count.clause) start_is c.loop-count.invariant.way in
    let leads = c.in-Some.ensures.fixed in
    comes_back trail c.args.pass.now.successors.now c.args.start (to_z w64 c.loop-count.last-bits) c.loop-count.places.items c.loop-count.clause way c.in-Some.next (same_of c.in-Some.next c.args.start fits_next fits_start c.if-next-start.true) leads

pub explain-requires-clause-present : goal.explain-requires-clause-present
explain-requires-clause-present c =
    let trail = c.args.pass.now.trail.now in
    let fits_next : FitsSigned w64 c.in-Some.next = search rules in
    let next_is : to_z w64 (of_z w64 c.in-Some.next) ≡ c.in-Some.next = to_z-of_z w64 c.in-Some.next fits_next in
    subst (IsEntailed trail.sets) (sym (c.equal-leads.ensures.value ∙ ap₂ (λ (t : Term) (x : ℤ). that t Equal x) c.term_at.ensures.value next_is))
    (all_fixed trail.sets (term_at c.args.pass.now.successors.now (to_z w64 c.loop-count.last-bits)) c.in-Some.next c.in-Some.ensures.fixed)

pub loop-count-preserved : goal.loop-count-preserved
loop-count-preserved c =
    let trail = c.args.pass.now.trail.now in
    let xs = c.args.pass.now.successors.now in
    let next = c.in-Some.next in
    let fits_next : FitsSigned w64 c.in-Some.next = search rules in
    let fits_start : FitsSigned w64 c.args.start = search rules in
    let next_is : to_z w64 (of_z w64 c.in-Some.next) ≡ c.in-Some.next = to_z-of_z w64 c.in-Some.next fits_next in
    let start_is : to_z w64 (of_z w64 c.args.start) ≡ c.args.start = to_z-of_z w64 c.args.start fits_start in
    let way = subst (λ (x : ℤ). IsWay trail xs x (to_z w64 c.loop-count.last-bits) c.loop-count.places.items c.loop-count.clause) start_is c.loop-count.invariant.way in
    let leads = c.in-Some.ensures.fixed in
    let explained = subst (λ (claim : Claim). IsClaimExplained trail claim c.loop-count.clause c.explain.new.clause) (c.equal-leads.ensures.value ∙ ap₂ (λ (t : Term) (x : ℤ). that t Equal x) c.term_at.ensures.value next_is) c.in_ok-explain.ensures in
    let room : length c.loop-count.places.items < length xs = let count = c.loop-count.invariant.count in omega arith in
    let longer : c.push-in-loop-count.new.self.items ≡ c.loop-count.places.items ++ c.in-Some.next ∷ [] = c.in_ok-push-2.ensures.items ∙ ap (λ (x : ℤ). c.loop-count.places.items ++ x ∷ []) next_is in
    let more = way_step trail xs c.args.start (to_z w64 c.loop-count.last-bits) c.in-Some.next c.loop-count.places.items c.loop-count.clause c.explain.new.clause way room c.in-Some.ensures.place leads (λ e. c.if-next-start.false (ap (of_z w64) e)) explained in
    record {
      way = subst (λ (x : ℤ). IsWay trail xs x (to_z w64 (of_z w64 c.in-Some.next)) c.push-in-loop-count.new.self.items c.explain.new.clause) (sym start_is)
          (subst (λ (x : ℤ). IsWay trail xs c.args.start x c.push-in-loop-count.new.self.items c.explain.new.clause) (sym next_is)
          (subst (λ (ps : List ℤ). IsWay trail xs c.args.start c.in-Some.next ps c.explain.new.clause) (sym longer) more));
      count = let count = c.loop-count.invariant.count in let len = length-append c.loop-count.places.items (c.in-Some.next ∷ []) in let all = ap length longer in omega arith;
    }
