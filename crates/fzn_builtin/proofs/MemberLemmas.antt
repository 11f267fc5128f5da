-- Claims of a term and a switch that refute a membership.
use Rattle.std.proofs.Common.{◌≡◌, ℕ, Bool, true, false, not, List, [], ◌∷◌, ◌++◌, length, sym, subst, ◌∙◌, inl, inr, arith, ℤ, pos, ◌≤ℤ◌, ◌<ℤ◌, ◌+ℤ◌, All, Option, Some, None}
use Rattle.std.proofs.lemmas.Int.{ints}
use Rattle.std.proofs.lemmas.Bool.{true≢false}
use Rattle.std.proofs.lemmas.List.Elements.{All-push, All-from_recursion, recursion_from_All}
use Rattle.fzn_domain.specs.IntSet.{IntSet, contains}
use Rattle.fzn_domain.specs.Narrow.{is_some_empty}
use Rattle.fzn_domain.proofs.DomainLemmas.{by_order}
use Rattle.fzn_values.specs.declared.term.Term.{Term}
use Rattle.fzn_meaning.specs.Meaning.{IsSwitch}
use Rattle.fzn_values.specs.Term.{IsTerm}
use Rattle.fzn_sets.specs.Terms.{MayBe}
use Rattle.fzn_builtin_rules.specs.Rows.{IsRowsMet, IsSetMissed}
use Rattle.fzn_rules.specs.declared.rule.Rule.TheVariants as rule
use Rattle.fzn_rules.specs.Rules.{IsMet}
use Rattle.fzn_terms.specs.declared.claim.Claim.{Claim}
use Rattle.fzn_terms.specs.Denied.{IsDenied, Refute}
use Rattle.fzn_terms.specs.declared.interval.Interval.{Interval}
use Rattle.fzn_terms.specs.Intervals.{LiesIn}
use Rattle.fzn_builtin.specs.declared.member.Pass.{Pass}
use Rattle.fzn_builtin.specs.Members.{IsNextAsked, IsSwitchedTo}
use Rattle.fzn_builtin.specs.Passes.{membership_constraint, AreAsked}
use Rattle.fzn_equality.proofs.CallerLemmas.{fixed_to, All-front, All-last}

missed : (sets : List IntSet) (term : Term) (s : IntSet) (switch : Option Term) (within : Bool) → is_some_empty sets ≡ false → IsSwitch (length sets) switch → IsSwitchedTo sets switch within → ((v : ℤ) → MayBe sets term v → contains s v ≡ not within) → IsSetMissed sets term s switch
missed sets term s None true filled fits switched none = λ v may here. true≢false (sym here ∙ none v may)
missed sets term s None false filled fits switched none = absurd switched
missed sets term s (Some switch) true filled fits switched none = inl (fixed_to sets switch (pos 1) filled fits switched, λ v may here. true≢false (sym here ∙ none v may))
missed sets term s (Some switch) false filled fits switched none = inr (fixed_to sets switch (pos 0) filled fits switched, none)

-- where the claims are denied, the term lies in the interval, and none of its values below a number is asked for
pub record AreAskedBelow (pass : Pass) (within : Bool) (interval : Interval) (claims : List Claim) (from : ℤ) : Type 0 where
  pub terms : All (λ (c : Claim). IsTerm (length pass.trail.now.declared) c.term) claims
  pub inside : (sets : List IntSet) → All (IsDenied sets) claims → LiesIn sets pass.term interval
  pub none : (sets : List IntSet) → All (IsDenied sets) claims → (v : ℤ) → MayBe sets pass.term v → v <ℤ from → contains pass.set.now v ≡ not within

module _ (pass : Pass) (within : Bool) (interval : Interval) where
  pub asked_none : (below above : Claim) → IsTerm (length pass.trail.now.declared) below.term × IsTerm (length pass.trail.now.declared) above.term → ((sets : List IntSet) → IsDenied sets below → IsDenied sets above → LiesIn sets pass.term interval) → AreAskedBelow pass within interval (below ∷ above ∷ []) interval.low
  asked_none below above fit inside =
      let each : (sets : List IntSet) → All (IsDenied sets) (below ∷ above ∷ []) → LiesIn sets pass.term interval = λ sets all. let parts = recursion_from_All (IsDenied sets) (below ∷ above ∷ []) all in inside sets parts.0 parts.1.0 in
      record {
        terms = All-from_recursion (λ (c : Claim). IsTerm (length pass.trail.now.declared) c.term) (below ∷ above ∷ []) (fit.0, (fit.1, tt));
        inside = each;
        none = λ sets all v may less. let here = each sets all v may in absurd (omega (arith, ints));
      }

  pub asked_push : (claims more : List Claim) (from next number after : ℤ) (claim : Claim) → AreAskedBelow pass within interval claims from → more ≡ claims ++ claim ∷ [] → claim.term ≡ pass.term → IsNextAsked pass.set.now within from next → ((sets : List IntSet) → IsDenied sets claim → MayBe sets pass.term number → ⊥) → number ≡ next → after ≡ next +ℤ pos 1 → AreAskedBelow pass within interval more after
  asked_push claims more from next number after claim so_far more_is term_is is denied number_is after_is = subst (λ (xs : List Claim). AreAskedBelow pass within interval xs after) (sym more_is) (record {
    terms = All-push (λ (c : Claim). IsTerm (length pass.trail.now.declared) c.term) claims claim so_far.terms (subst (IsTerm (length pass.trail.now.declared)) (sym term_is) pass.fits);
    inside = λ sets all. so_far.inside sets (All-front (IsDenied sets) claims claim all);
    none = λ sets all v may less.
        by_order from v (λ after. by_order next v (λ past. absurd (denied sets (All-last (IsDenied sets) claims claim all) (subst (λ (x : ℤ). MayBe sets pass.term x) (same_number v past less) may))) (λ before. is.between v after before))
        (λ before. so_far.none sets (All-front (IsDenied sets) claims claim all) v may before);
  })
    where
      same_number : (v : ℤ) → next ≤ℤ v → v <ℤ after → v ≡ number
      same_number v past less = omega (arith, ints)

  -- from the number up nothing in the interval is asked for
  pub asked_all : (claims : List Claim) (from : ℤ) → AreAskedBelow pass within interval claims from → ((v : ℤ) → from ≤ℤ v → v ≤ℤ interval.high → contains pass.set.now v ≡ not within) → AreAsked pass within claims
  asked_all claims from so_far rest = record {
    terms = so_far.terms;
    none = λ sets all v may. by_order from v (λ after. rest v after (so_far.inside sets all v may).1) (λ before. so_far.none sets all v may before);
  }

pub refuted_elsewhere : (pass : Pass) (within : Bool) (claims : List Claim) (otherwise : Claim) → AreAsked pass within claims → ((sets : List IntSet) → IsDenied sets otherwise → IsSwitchedTo sets pass.switch within) → Refute (length pass.trail.now.declared) (claims ++ otherwise ∷ []) (membership_constraint pass) rule.Rows
unfolding IsMet IsRowsMet
refuted_elsewhere pass within claims otherwise asked switched sets denying =
    inl (missed sets pass.term pass.set.now pass.switch within denying.filled (subst (λ (n : ℕ). IsSwitch n pass.switch) (sym denying.one_each) pass.switch_fits) (switched sets (All-last (IsDenied sets) claims otherwise denying.denied)) (asked.none sets (All-front (IsDenied sets) claims otherwise denying.denied)))
