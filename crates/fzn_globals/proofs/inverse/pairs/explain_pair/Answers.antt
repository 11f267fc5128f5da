use Rattle.std.proofs.Common.{ℕ, List, length, sym, ap, subst, ◌∙◌, arith, ℤ, pos, negsuc, ◌≤ℤ◌}
use Rattle.std.proofs.lemmas.Int.{ints}
use Rattle.std.proofs.lemmas.Bool.{MatchBool-at_true}
use Rattle.fzn_domain.proofs.DomainLemmas.{real}
use Rattle.fzn_domain.specs.declared.literal.Op.TheVariants.{Equal, NotEqual}
use Rattle.fzn_values.specs.Term.{IsTerm}
use Rattle.fzn_terms.specs.declared.claim.Claim.{Claim}
use Rattle.fzn_terms.specs.Denied.{that}
use Rattle.fzn_domain.specs.declared.literal.Lit.{Lit}
use Rattle.fzn_values.specs.Entries.{IsIndex}
use Rattle.fzn_propagator.specs.Clause.{IsJustifiedBy}
use Rattle.fzn_globals.specs.declared.inverse.pass.Pass.{Pass}
use Rattle.fzn_globals.specs.Ways.{IsBrokenOn, pair_rule}
use Rattle.fzn_globals.specs.InversePasses.{IsJustifiedByInverse, HasEntry}
use Rattle.fzn_globals.proofs.KindLemmas.{pair_justified}
use Rattle.fzn_globals.proofs.WayLemmas.{index_limits, broken_missing, broken_fixed, may_be_so}
use Rattle.fzn_globals.proofs.inverse.pairs.explain_pair.Goals as goal

inferred : (pass : Pass) (i j : ℤ) (clause : List Lit) → HasEntry pass i → HasEntry pass j → IsJustifiedBy pass.trail.now (IsBrokenOn pass.there.now pass.back.now i j) clause → IsJustifiedByInverse pass (pair_rule pass.side i j) clause
inferred pass i j clause at_i at_j broken = pair_justified pass.trail.now pass.there.now pass.back.now clause i j at_i (subst (λ (n : ℕ). IsIndex n j) (sym pass.same) at_j) pass.side broken

pub returns-then-not-may_be-clause-found : goal.returns-then-not-may_be-clause-found
returns-then-not-may_be-clause-found c =
    let trail = c.args.pass.now.trail.now in
    let i = c.args.i.now in
    let j = c.args.j.now in
    let entry = c.term_at-entry.result in
    inferred c.args.pass.now i j c.push_missing.new.clause c.requires.first c.requires.second
    (broken_missing trail c.args.pass.now.there.now c.args.pass.now.back.now i j entry c.term_at-target.result c.term_at-entry.ensures.value c.term_at-target.ensures.value
    (c.term_at-entry.ensures.same (length trail.declared) c.args.pass.now.fit) c.equal.result
    (c.equal.ensures.value ∙ ap (λ (x : ℤ). that entry Equal x) (real j (index_limits _ j c.args.pass.now.short c.requires.second)))
    c.in_ok-clause.clause c.force_possible.new.clause c.push_missing.new.clause c.in_ok-force_possible.ensures c.in_ok-push_missing.ensures)

pub force_possible-requires-clause-possible : goal.force_possible-requires-clause-possible
force_possible-requires-clause-possible c =
    let trail = c.args.pass.now.trail.now in
    let i = c.args.i.now in
    let j = c.args.j.now in
    let entry = c.term_at-entry.result in
    may_be_so trail c.args.pass.now.there.now c.args.pass.now.back.now i j entry c.term_at-target.result c.term_at-entry.ensures.value c.term_at-target.ensures.value
    (c.term_at-entry.ensures.same (length trail.declared) c.args.pass.now.fit) c.equal.result
    (c.equal.ensures.value ∙ ap (λ (x : ℤ). that entry Equal x) (real j (index_limits _ j c.args.pass.now.short c.requires.second))) c.requires.may

pub force-requires-clause-term : goal.force-requires-clause-term
force-requires-clause-term c =
    subst (λ (claim : Claim). IsTerm (length c.args.pass.now.trail.now.declared) claim.term) (sym c.other_than.ensures.value) (c.term_at-target.ensures.same (length c.args.pass.now.trail.now.declared) c.args.pass.now.back_fit)

pub force-requires-clause-above : goal.force-requires-clause-above
force-requires-clause-above c =
    let i = c.args.i.now in
    let limits = index_limits _ i c.args.pass.now.short c.requires.first in
    subst (λ (claim : Claim). negsuc 3999999999 ≤ℤ claim.number) (sym c.other_than.ensures.value) (omega (arith, ints, real i limits, limits.0))

pub force-requires-clause-below : goal.force-requires-clause-below
force-requires-clause-below c =
    let i = c.args.i.now in
    let limits = index_limits _ i c.args.pass.now.short c.requires.first in
    subst (λ (claim : Claim). claim.number ≤ℤ pos 4000000000) (sym c.other_than.ensures.value) (omega (arith, ints, real i limits, limits.1))

pub returns-then-branch-clause-found : goal.returns-then-branch-clause-found
returns-then-branch-clause-found c =
    let trail = c.args.pass.now.trail.now in
    let i = c.args.i.now in
    let j = c.args.j.now in
    let entry = c.term_at-entry.result in
    let target = c.term_at-target.result in
    inferred c.args.pass.now i j c.force.new.clause c.requires.first c.requires.second
    (broken_fixed trail c.args.pass.now.there.now c.args.pass.now.back.now i j entry target c.term_at-entry.ensures.value c.term_at-target.ensures.value
    (c.term_at-entry.ensures.same (length trail.declared) c.args.pass.now.fit) c.equal-2.result
    (c.equal-2.ensures.value ∙ ap (λ (x : ℤ). that entry Equal x) (real j (index_limits _ j c.args.pass.now.short c.requires.second)))
    c.other_than.result c.in_ok-clause-2.clause c.explain.new.clause c.force.new.clause
    (c.other_than.ensures.value ∙ ap (λ (x : ℤ). that target NotEqual x) (real i (index_limits _ i c.args.pass.now.short c.requires.first)))
    c.in_ok-explain.ensures (MatchBool-at_true _ _ c.if-branch.true c.in_ok-force.ensures))
