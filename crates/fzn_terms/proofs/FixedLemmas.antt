-- Terms where all variables are fixed.
use Rattle.std.proofs.Common.{◌≡◌, ℕ, ◌-◌, true, List, length, refl, sym, subst, ◌∙◌, arith, ℤ, All}
use Rattle.fzn_domain.specs.IntSet.{IntSet, contains, least, greatest, no_values}
use Rattle.fzn_domain.specs.Narrow.{IsWithin, set_of, value_of}
use Rattle.fzn_domain.proofs.SetLemmas.{only_member, contains-least, contains-greatest}
use Rattle.fzn_values.specs.declared.term.Term.{Term}
use Rattle.fzn_values.specs.declared.term.Term.TheVariants.{Constant, Variable}
use Rattle.fzn_values.specs.Term.{IsTerm, term_value}
use Rattle.fzn_sets.specs.Terms.{IsFixedTo}
use Rattle.fzn_sets.proofs.CallerLemmas.{MayBe-term_value}
use Rattle.fzn_trail.specs.Levels.{Levels}
use Rattle.fzn_propagator.specs.Inference.{AllFixed}
use Rattle.fzn_terms.specs.Values.{IsOnly, IsFixed}

module _ (sets : List IntSet) (values : List ℤ) (within : IsWithin sets values) (fixed : AllFixed sets) where
  pub fixed_only : (term : Term) → IsTerm (length sets) term → IsOnly sets term (term_value values term)
  fixed_only (Constant k) fits = record { member = refl; only = λ v may. sym may }
  fixed_only (Variable var) fits =
      let here = MayBe-term_value sets values (Variable var) within fits in
      record { member = here; only = λ v may. only_member (set_of sets var) v (value_of values var) (fixed (var.0 - 1) no_values (omega arith)) may here }

  -- a term has the one value that its variable is assigned
  pub fixed_to : (term : Term) → IsTerm (length sets) term → IsFixedTo sets term (term_value values term)
  fixed_to (Constant k) fits = (refl, refl)
  fixed_to (Variable var) fits =
      let s = set_of sets var in
      let here : contains (set_of sets var) (value_of values var) ≡ true = within.inside (var.0 - 1) (omega arith) in (
        only_member s (least s) (value_of values var) (fixed (var.0 - 1) no_values (omega arith)) (contains-least s (value_of values var) here) here,
        only_member s (greatest s) (value_of values var) (fixed (var.0 - 1) no_values (omega arith)) (contains-greatest s (value_of values var) here) here,
      )

  -- so its least value is its greatest
  pub fixed_ends : (term : Term) → IsTerm (length sets) term → IsFixed sets term
  fixed_ends term fits = let to = fixed_to term fits in to.0 ∙ sym to.1

module _ (trail : Levels) where
  same_count : (values : List ℤ) → IsWithin trail.declared values → IsWithin trail.sets values → length trail.declared ≡ length trail.sets
  same_count values declared present = sym declared.one_each ∙ present.one_each

  pub now_fit : (values : List ℤ) (terms : List Term) → IsWithin trail.declared values → IsWithin trail.sets values → All (IsTerm (length trail.declared)) terms → All (IsTerm (length trail.sets)) terms
  now_fit values terms declared present fit = subst (λ (n : ℕ). All (IsTerm n) terms) (same_count values declared present) fit
