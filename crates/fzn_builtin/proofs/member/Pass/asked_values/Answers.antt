use Rattle.std.proofs.Common.{◌≡◌, length, ℤ, pos, ◌≤ℤ◌, List, ◌∷◌, ◌++◌, [], arith, sym, ap, subst, ◌∙◌, w64, to_z, of_z}
use Rattle.std.proofs.lemmas.Int.{ints}
use Rattle.fzn_domain.specs.declared.domain.TheConstants.{LEAST_VALUE}
use Rattle.fzn_terms.specs.declared.claim.Claim.{Claim}
use Rattle.fzn_builtin.proofs.MemberLemmas.{AreAskedBelow, asked_none, asked_push, asked_all}
use Rattle.fzn_builtin.proofs.member.Pass.asked_values.Goals as goal

pub loop-init : goal.loop-init
loop-init c =
    let low = c.requires.limited.0 in
    let passed : to_z w64 (of_z w64 c.args.interval.low) ≡ c.args.interval.low = omega (arith, ints, low.0, low.1) in
    let all : c.push-2.new.self ≡ c.outside.result.0 ∷ c.outside.result.1 ∷ [] =
    c.in_ok-push-2.ensures.ok ∙ ap (λ (xs : List Claim). xs ++ c.outside.result.1 ∷ []) (c.in_ok-push.ensures.ok ∙ ap (λ (xs : List Claim). xs ++ c.outside.result.0 ∷ []) c.new-claims.ensures) in
    record {
      asked = subst (λ (v : ℤ). AreAskedBelow c.args.self.now c.args.within c.args.interval c.push-2.new.self v) (sym passed)
          (subst (λ (xs : List Claim). AreAskedBelow c.args.self.now c.args.within c.args.interval xs c.args.interval.low) (sym all)
          (asked_none c.args.self.now c.args.within c.args.interval c.outside.result.0 c.outside.result.1 (c.outside.ensures.terms (length c.args.self.now.trail.now.declared) c.args.self.now.fits) c.outside.ensures.inside));
      least = subst (λ (v : ℤ). LEAST_VALUE ≤ℤ v) (sym passed) low.0;
      greatest = subst (λ (v : ℤ). v ≤ℤ pos 1000000001) (sym passed) (let high = low.1 in omega (arith, ints));
    }

pub loop-preserved : goal.loop-preserved
loop-preserved c =
    let inside = c.requires.limited.1.1 in
    let before = c.loop.invariant.least in
    let order = c.in-Some.ensures.found.in_order in
    record {
      asked = asked_push c.args.self.now c.args.within c.args.interval c.loop.claims _ _ c.in-Some.next (to_z w64 (of_z w64 c.in-Some.next)) _ c.equal.result c.loop.invariant.asked c.in_ok-push-3.ensures.ok c.equal.ensures.term c.in-Some.ensures.found c.equal.ensures.denied (omega (arith, ints)) (omega (arith, ints));
      least = omega (arith, ints);
      greatest = omega (arith, ints);
    }

pub returns-then-interval-next : goal.returns-then-interval-next
returns-then-interval-next c =
    asked_all c.args.self.now c.args.within c.args.interval c.loop.claims _ c.loop.invariant.asked (λ v after inside. c.in-Some.ensures.found.between v after (omega (arith, ints)))
