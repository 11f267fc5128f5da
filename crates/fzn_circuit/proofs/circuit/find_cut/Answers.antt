use Rattle.std.proofs.Common.{rules, ◌≡◌, ◌<◌, length, arith, ap, ap₂, sym, subst, ◌∙◌, ℤ, w64, to_z, of_z, FitsSigned, IsPermutation}
use Rattle.std.proofs.lemmas.Int.{to_z-of_z}
use Rattle.fzn_domain.specs.declared.literal.Op.TheVariants.{Equal}
use Rattle.fzn_values.specs.declared.term.Term.{Term}
use Rattle.fzn_meaning.specs.declared.constraint.Constraint.TheVariants.{Circuit}
use Rattle.fzn_sets.specs.Terms.{term_at}
use Rattle.fzn_terms.specs.declared.claim.Claim.{Claim}
use Rattle.fzn_terms.specs.Denied.{that, IsClaimForced, IsDenied}
use Rattle.fzn_circuit.specs.Circuits.{IsWay, IsAtEnd}
use Rattle.fzn_circuit.proofs.WayLemmas.{hints_are, cut_inferred, none_of_apart}
use Rattle.std.proofs.lemmas.Bool.{MatchBool-at_true, MatchBool-at_false}
use Rattle.fzn_circuit.proofs.circuit.find_cut.Goals as goal

pub returns-clause-found : goal.returns-clause-found
returns-clause-found c =
    let trail = c.args.pass.now.trail.now in
    let xs = c.args.pass.now.successors.now in
    let last = c.in_ok-last.last in
    let fits : FitsSigned w64 c.args.start = search rules in
    let fits_last : FitsSigned w64 c.in_ok-last.last = search rules in
    let start_is : to_z w64 (of_z w64 c.args.start) ≡ c.args.start = to_z-of_z w64 c.args.start fits in
    let same : c.equal-back.result ≡ that (term_at xs last) Equal c.args.start = c.equal-back.ensures.value ∙ ap₂ (λ (t : Term) (x : ℤ). that t Equal x) (c.term_at.ensures.value ∙ ap (term_at xs) (to_z-of_z w64 c.in_ok-last.last fits_last)) start_is in
    let way = subst (λ (x : ℤ). IsWay trail xs x c.in_ok-last.last c.follow.new.places.items c.follow.new.clause) start_is c.in_ok-last.ensures.way in
    let sorted = c.deref.result.now in
    let order = subst (IsPermutation c.follow.new.places.items) (sym c.deref.ensures.value) c.sort_unstable.ensures.permutation in
    let forced = subst (λ (claim : Claim). IsClaimForced trail claim c.follow.new.clause c.force.new.clause) same (MatchBool-at_true _ (IsDenied trail.sets c.equal-back.result) c.if-not-branch.false c.in_ok-force.ensures) in
    let few = c.in_ok-places.ensures.few in
    let len = c.len.ensures in
    let short = c.if-len-pass.false in
    let as_many = ap length c.deref.ensures.value in
    let sorted_len = c.sort_unstable.ensures.len in
    let fewer : length c.in_ok-places.places < length xs = omega arith in
    c.hand_over.ensures.found trail (Circuit xs)
    (cut_inferred trail xs c.args.start last c.follow.new.places.items sorted c.in_ok-places.places c.follow.new.clause way order c.in_ok-places.ensures.same c.in_ok-places.ensures.all c.force.new.clause c.in_ok-places.ensures.ascending fewer forced) c.requires.before

pub hand_over-requires : goal.hand_over-requires
hand_over-requires c =
    let order = subst (IsPermutation c.follow.new.places.items) (sym c.deref.ensures.value) c.sort_unstable.ensures.permutation in
    let way = c.in_ok-last.ensures.way in
    record { hints = hints_are c.args.pass.now.trail.now c.args.pass.now.successors.now _ _ c.follow.new.places.items c.deref.result.now c.in_ok-places.places c.follow.new.clause way order c.in_ok-places.ensures.same c.in_ok-places.ensures.all c.args.pass.now.terms.1 c.in_ok-places.ensures.ascending }

pub returns-then-not-branch-clause-none : goal.returns-then-not-branch-clause-none
returns-then-not-branch-clause-none c = λ empty.
    let trail = c.args.pass.now.trail.now in
    let xs = c.args.pass.now.successors.now in
    let last = c.in_ok-last.last in
    let fits : FitsSigned w64 c.args.start = search rules in
    let fits_last : FitsSigned w64 c.in_ok-last.last = search rules in
    let start_is : to_z w64 (of_z w64 c.args.start) ≡ c.args.start = to_z-of_z w64 c.args.start fits in
    let same : c.equal-back.result ≡ that (term_at xs last) Equal c.args.start = c.equal-back.ensures.value ∙ ap₂ (λ (t : Term) (x : ℤ). that t Equal x) (c.term_at.ensures.value ∙ ap (term_at xs) (to_z-of_z w64 c.in_ok-last.last fits_last)) start_is in
    let way = subst (λ (x : ℤ). IsWay trail xs x c.in_ok-last.last c.follow.new.places.items c.follow.new.clause) start_is c.in_ok-last.ensures.way in
    let end = subst (λ (x : ℤ). IsAtEnd trail.sets xs x c.follow.new.places.items) start_is c.in_ok-last.ensures.end in
    let none = subst (IsDenied trail.sets) same (MatchBool-at_false (IsClaimForced trail c.equal-back.result c.follow.new.clause c.force.new.clause) _ c.if-not-branch.true c.in_ok-force.ensures) in
    let len = c.len.ensures in
    let short = c.if-len-pass.false in
    none_of_apart trail xs c.args.start last c.follow.new.places.items c.follow.new.clause way (omega arith) c.args.pass.now.filled c.len-entries.ensures.narrower.one_each c.args.pass.now.terms.0 end none
